pub mod Each
pub mod Unused
pub mod Timers
