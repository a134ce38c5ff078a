pub mod Tracked
pub mod Touched
pub mod Bytes
pub mod Since
