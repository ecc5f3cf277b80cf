pub mod Calls
pub mod Timers
