pub mod Sides
pub mod Plans
pub mod Rooms
pub mod Steps
pub mod Readings
pub mod Calls
