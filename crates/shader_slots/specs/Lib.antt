pub mod Part
pub mod Bound
