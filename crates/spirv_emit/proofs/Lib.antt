pub mod Words
pub mod Meaning
pub mod Lowering
pub mod Profile
pub mod Size
pub mod Emitted
