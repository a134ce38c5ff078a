pub mod Ranges
pub mod Summary
