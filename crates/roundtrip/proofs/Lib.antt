pub mod Numbers
pub mod Fields
pub mod Calls
pub mod Lists
pub mod Tables
pub mod Doubtful
pub mod Kept
pub mod Roundtrip
