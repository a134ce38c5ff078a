pub mod Creation
pub mod Limits
pub mod Meaning
