pub mod Sets
pub mod Flags
pub mod Passing
pub mod Ready
pub mod Laws
