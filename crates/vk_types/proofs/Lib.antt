pub mod Reorder
pub mod Local
pub mod Acts
pub mod Examples
pub mod Law
pub mod Order
pub mod Bridge
pub mod Serving
