pub mod Tables
pub mod Times
pub mod Numbers
pub mod Unnamed
pub mod Counted
pub mod Begun
