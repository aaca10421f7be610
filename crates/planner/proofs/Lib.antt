pub mod Bounds
pub mod Stepping
pub mod Running
