pub mod Readiness
pub mod StageSets
pub mod Left
