pub mod Events
pub mod Happens
