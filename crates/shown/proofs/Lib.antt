pub mod Reach
pub mod Privacy
pub mod Examples
