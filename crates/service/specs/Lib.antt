pub mod Service
