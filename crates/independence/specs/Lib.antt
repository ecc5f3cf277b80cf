pub mod Independence
pub mod Leaning
