pub mod Commute
pub mod Positions
pub mod Reorder
