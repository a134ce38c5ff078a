pub mod PageState
pub mod Page
pub mod Pages
