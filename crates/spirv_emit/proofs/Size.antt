-- How large a module is.
pub mod FewNumbers
pub mod FewPieces
pub mod FewSteps
pub mod FewIds
pub mod FewWords
pub mod Bounds
pub mod SmallPieces
