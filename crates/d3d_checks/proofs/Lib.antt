pub mod Passes
mod Classes
mod Unasked
mod Listed
mod Overwrites
