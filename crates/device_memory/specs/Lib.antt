pub mod Held
pub mod Ranges
pub mod Writes
pub mod Binding
pub mod Meant
pub mod Runs
