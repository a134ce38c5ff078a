mod Worked
pub mod Acting
pub mod Components
pub mod Turns
pub mod Writing
pub mod Joining
pub mod Limits
pub mod Ending
pub mod Walking
