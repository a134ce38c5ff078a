pub mod Calls
pub mod Names
pub mod Counts
pub mod Named
pub mod Begun
pub mod Opened
pub mod Lists
pub mod Recorded
