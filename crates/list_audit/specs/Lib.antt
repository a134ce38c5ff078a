pub mod AuditText
pub mod Shared
pub mod Reports
pub mod Numbers
pub mod Reading
