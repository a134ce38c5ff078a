pub mod Standing
pub mod Holding
pub mod InOrder
