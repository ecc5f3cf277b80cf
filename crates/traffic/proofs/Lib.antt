pub mod Walk
pub mod Subfields
