mod Follows
pub mod Written
