pub mod Bound
pub mod Played
pub mod Listed
pub mod Slots
