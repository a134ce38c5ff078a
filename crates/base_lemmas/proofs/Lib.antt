pub mod Lists
pub mod Scan
pub mod Maps
pub mod CodeMaps
pub mod ByteWords
