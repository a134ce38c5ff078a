pub mod Lists
pub mod IdMap
pub mod CodeMap
pub mod ByteWords
