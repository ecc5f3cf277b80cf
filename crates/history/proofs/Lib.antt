pub mod Standing
pub mod Expiry
pub mod Restarting
pub mod Marks
pub mod Doubts
pub mod Steps
pub mod History
