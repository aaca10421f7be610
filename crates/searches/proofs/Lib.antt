pub mod Refills
pub mod Finding
pub mod Shown
