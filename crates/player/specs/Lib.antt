pub mod Number
pub mod StatusText
pub mod Words
pub mod AuditLines
pub mod Tasks
pub mod Generated
pub mod Outcome
