pub mod Mandatory
