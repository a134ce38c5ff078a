pub mod CheckOrder
pub mod LeastClass
pub mod KeptTotals
