pub mod Doubling
pub mod Rounds
