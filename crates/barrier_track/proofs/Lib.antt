pub mod Bytes
pub mod PerBlock
pub mod Touched
pub mod Since
pub mod Covers
