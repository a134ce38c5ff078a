pub mod Creation
pub mod Outcome
pub mod Totals
