pub mod Bytes
pub mod Walking
pub mod Gathering
pub mod Judging
pub mod Sofar
pub mod Finishing
pub mod Around
pub mod Closing
