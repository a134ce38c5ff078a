pub mod Codes
pub mod Counted
pub mod Shaders
pub mod Sorts
pub mod Setting
pub mod Contexts
pub mod Meaning
