pub mod Lists
pub mod Standing
pub mod Holding
pub mod InOrder
pub mod Copies
