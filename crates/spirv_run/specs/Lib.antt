pub mod Cells
pub mod Frames
pub mod Held
pub mod Steps
pub mod Decoding
pub mod Tables
pub mod Threads
