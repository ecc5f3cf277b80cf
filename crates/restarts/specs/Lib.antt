pub mod User
pub mod Own
