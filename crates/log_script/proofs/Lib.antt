pub mod Meant
pub mod Owed
pub mod Promised
