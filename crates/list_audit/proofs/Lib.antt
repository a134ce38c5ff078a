pub mod Rising
pub mod Lines
pub mod Front
pub mod OneReading
pub mod Shares
pub mod Whole
