pub mod Trees
pub mod Putting
pub mod Nested
pub mod Spelling
pub mod Operands
pub mod Statements
pub mod Counting
pub mod Fitting
pub mod Lengths
pub mod Declaring
pub mod Depth
pub mod Goodness
pub mod PlacesInOrder
mod Examples
