pub mod Agreeing
pub mod Telling
pub mod Holding
pub mod Rows
