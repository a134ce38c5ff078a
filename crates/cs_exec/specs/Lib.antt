pub mod Position
pub mod Standing
pub mod Steps
