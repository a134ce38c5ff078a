pub mod Played
pub mod Naming
pub mod Staging
pub mod Makers
pub mod Calls
pub mod Devices
