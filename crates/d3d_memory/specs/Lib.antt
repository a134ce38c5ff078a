pub mod Limits
pub mod Contents
pub mod Clears
pub mod Effects
pub mod Shown
pub mod Ran
pub mod Commands
pub mod Meeting
