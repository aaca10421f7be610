pub mod Marks
pub mod Parts
pub mod Sweeps
pub mod Searches
pub mod Levels
pub mod Trails
pub mod Rows
pub mod Depths
