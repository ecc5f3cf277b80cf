pub mod Header
pub mod MessageType
