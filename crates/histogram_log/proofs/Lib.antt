pub mod Spelled
pub mod Calls
pub mod Lengths
pub mod Logs
pub mod PollCount
