pub mod Search
pub mod Marks
