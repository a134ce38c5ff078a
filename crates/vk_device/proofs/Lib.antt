pub mod Alike
pub mod Taking
pub mod Giving
pub mod Ran
pub mod Checks
pub mod Lengths
mod Kept
