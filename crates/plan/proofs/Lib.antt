pub mod Meeting
pub mod Replaying
