pub mod Contents
pub mod Fits
