pub mod Fronts
pub mod Made
pub mod Latest
pub mod Kept
pub mod Edges
pub mod Known
pub mod Rules
pub mod Reading
