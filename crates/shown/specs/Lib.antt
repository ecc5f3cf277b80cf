pub mod Calling
pub mod Shown
pub mod Privacy
