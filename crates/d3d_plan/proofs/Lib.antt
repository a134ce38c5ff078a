pub mod Pieces
mod Frozen
pub mod Moves
pub mod Keeping
pub mod Records
pub mod Steps
pub mod Logs
pub mod Entries
pub mod Places
