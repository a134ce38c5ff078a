pub mod LogText
pub mod Reading
