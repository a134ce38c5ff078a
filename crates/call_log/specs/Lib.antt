pub mod Call
pub mod Kinds
pub mod Body
pub mod Grammar
pub mod View
pub mod Put
