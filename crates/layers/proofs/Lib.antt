pub mod Lawful
pub mod Codes
