pub mod Levels
pub mod Nested
pub mod Decoding
