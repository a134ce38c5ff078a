pub mod Lists
pub mod Places
pub mod Cutting
pub mod Walking
pub mod Edges
pub mod Chains
