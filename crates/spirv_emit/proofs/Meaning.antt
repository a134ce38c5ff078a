-- What a module means: its machine does what the pieces of its shader do.
pub mod ValueTables
pub mod FormulaSteps
pub mod HeldFrames
pub mod Calculations
pub mod LabelPlaces
pub mod Choices
pub mod WordActions
pub mod Pieces
pub mod CodeStretches
pub mod Loops
pub mod Blocks
pub mod Prologue
pub mod WholeModule
pub mod ModuleMeaning
pub mod WorkedModules
pub mod GoodShaders
pub mod Dispatches
