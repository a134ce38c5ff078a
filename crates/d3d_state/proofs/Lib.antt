pub mod Found
pub mod Counts
pub mod Spelled
pub mod Contexts
