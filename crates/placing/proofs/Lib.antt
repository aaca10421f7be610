pub mod Crowds
pub mod Limited
