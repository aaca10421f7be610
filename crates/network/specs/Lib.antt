pub mod Plans
pub mod States
pub mod Moves
pub mod Stages
pub mod Found
pub mod Cuts
pub mod Finished
