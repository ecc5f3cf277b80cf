pub mod Verdict
pub mod Expiry
