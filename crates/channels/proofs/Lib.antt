pub mod Parts
pub mod Cases
pub mod Some
pub mod Walk
pub mod Lowest
pub mod Order
