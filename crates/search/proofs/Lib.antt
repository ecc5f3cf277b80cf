pub mod Free
pub mod Once
pub mod Crowd
pub mod Used
pub mod Marked
pub mod Pass
pub mod Together
pub mod Walked
