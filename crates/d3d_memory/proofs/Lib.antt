pub mod Puts
pub mod Kept
pub mod Clearing
pub mod Parts
pub mod Programs
pub mod Played
pub mod Shows
pub mod Bounded
pub mod Stores
pub mod Short
mod Lengths
