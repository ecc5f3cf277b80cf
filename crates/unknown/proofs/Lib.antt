pub mod First
pub mod Front
