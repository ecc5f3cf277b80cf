pub mod SmallTable
pub mod FixedAnswers
pub mod Sound
pub mod NoPair
pub mod Slips
pub mod Flags
pub mod Restarts
