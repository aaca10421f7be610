pub mod Told
pub mod Checks
