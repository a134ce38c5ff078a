pub mod Chunks
pub mod Handed
