pub mod Places
pub mod Notes
pub mod Emitting
pub mod Tables
