pub mod Fitting
pub mod Sent
pub mod Demands
