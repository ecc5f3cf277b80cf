pub mod Walk
pub mod Traffic
