pub mod Class
pub mod Judge
