pub mod Cases
pub mod Stores
pub mod Equal
pub mod Numbers
