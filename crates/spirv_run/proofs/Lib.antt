pub mod CellLists
pub mod Decoded
pub mod Exchanging
pub mod PlainSteps
pub mod Samples
pub mod Stepping
pub mod Walking
