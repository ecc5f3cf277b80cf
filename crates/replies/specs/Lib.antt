pub mod Message
pub mod Reply
