pub mod Listing
pub mod Steps
pub mod Messages
pub mod Queries
pub mod Blocks
pub mod Runs
pub mod Ends
