pub mod ByRooms
pub mod SideRooms
pub mod Measured
