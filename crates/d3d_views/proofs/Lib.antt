pub mod CheckOrder
pub mod Pushed
pub mod Spans
pub mod Unset
