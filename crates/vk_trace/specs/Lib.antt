pub mod ListText
pub mod Reading
pub mod Writing
pub mod OrderLine
