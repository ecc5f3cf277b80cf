pub mod Below
pub mod Accepted
pub mod Least
pub mod Examples
