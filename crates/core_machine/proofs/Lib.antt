pub mod Advance
pub mod Verdicts
pub mod Records
