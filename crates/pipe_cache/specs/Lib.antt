pub mod Modules
pub mod Cells
pub mod Created
pub mod Made
