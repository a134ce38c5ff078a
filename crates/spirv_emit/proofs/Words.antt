-- What the words of a module are: those of the definitions, which are read back as the same instructions.
pub mod LabelRanges
pub mod ReadBack
pub mod CanBeSpelled
pub mod Appending
pub mod NumberPlaces
pub mod ListedCode
pub mod CalculationsAndAccesses
pub mod LeavesAndLoops
pub mod Nodes
pub mod ModuleParts
