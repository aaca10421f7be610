pub mod Every
pub mod Sides
pub mod Through
