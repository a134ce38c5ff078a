pub mod Unplayed
pub mod Commands
pub mod Machine
pub mod Keeping
