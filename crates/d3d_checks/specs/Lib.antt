pub mod Asked
pub mod NewViews
pub mod Accepted
pub mod Created
pub mod Dispatched
