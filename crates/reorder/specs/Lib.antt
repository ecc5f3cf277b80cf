pub mod Reorder
