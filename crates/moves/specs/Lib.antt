pub mod Amount
pub mod Paths
