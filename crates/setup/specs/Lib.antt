pub mod Setup
pub mod Offer
