pub mod Modules
pub mod State
pub mod Accepting
pub mod Running
pub mod Completing
