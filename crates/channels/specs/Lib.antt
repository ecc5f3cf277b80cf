pub mod Channels
pub mod Order
