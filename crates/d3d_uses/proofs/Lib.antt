pub mod Bytes
pub mod Merged
pub mod Deeds
pub mod Summaries
pub mod Records
