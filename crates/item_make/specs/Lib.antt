pub mod Making
pub mod Bound
pub mod Calls
