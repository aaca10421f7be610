pub mod ByRooms
pub mod Measures
