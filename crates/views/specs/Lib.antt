pub mod Tables
pub mod Effects
