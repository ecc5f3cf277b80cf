pub mod ReadBack
pub mod Replies
pub mod Said
