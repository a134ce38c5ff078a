pub mod Dispatched
pub mod Posts
