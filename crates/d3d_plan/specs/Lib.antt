pub mod Planned
pub mod Shown
pub mod Keeping
pub mod Stands
pub mod Ends
pub mod Verdicts
