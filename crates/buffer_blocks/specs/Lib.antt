pub mod Written
pub mod BytesLent
pub mod Block
