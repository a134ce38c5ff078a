pub mod Histogram
pub mod Logged
