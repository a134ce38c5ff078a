mod AllScan
pub mod Open
pub mod Placed
pub mod Whole
pub mod Acts
pub mod Broken
pub mod Rising
pub mod Served
mod Best
pub mod Trees
pub mod CutOrder
pub mod Closing
pub mod Noting
pub mod Sweep
pub mod Finishing
pub mod Places
pub mod Touching
pub mod Kept
pub mod Rows
pub mod Marks
pub mod Stages
