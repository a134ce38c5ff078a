pub mod Moves
pub mod ShownSlots
