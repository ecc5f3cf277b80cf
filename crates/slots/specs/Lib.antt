pub mod Slots
pub mod Timers
