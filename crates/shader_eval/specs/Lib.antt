pub mod Accesses
pub mod Acted
pub mod Actions
pub mod Frames
pub mod Lanes
pub mod Threads
