pub mod Walks
pub mod Levels
pub mod Search
pub mod Counting
