pub mod SameTrays
pub mod Loads
pub mod Moves
pub mod Determined
pub mod Runs
pub mod CutsRead
pub mod Keeps
