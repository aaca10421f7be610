pub mod Amounts
pub mod ByRooms
pub mod Reading
pub mod Shifting
