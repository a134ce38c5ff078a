pub mod Placed
pub mod Slots
