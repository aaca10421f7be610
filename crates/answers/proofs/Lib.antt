pub mod Sums
pub mod Positions
pub mod SameCaps
pub mod Lookups
