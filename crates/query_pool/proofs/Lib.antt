pub mod Rising
pub mod Counting
pub mod Climbing
pub mod Placing
