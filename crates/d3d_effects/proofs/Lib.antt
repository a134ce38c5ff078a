mod Passes
mod NoEffect
mod ListsPlayed
pub mod BoundRanges
mod Slots
mod Kept
pub mod ListCalls
pub mod Opened
pub mod Parts
pub mod Fits
