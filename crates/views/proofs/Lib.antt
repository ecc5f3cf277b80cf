pub mod Verdicts
pub mod View
