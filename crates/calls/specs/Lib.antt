pub mod Refusals
pub mod Events
pub mod Law
pub mod Does
pub mod Kept
