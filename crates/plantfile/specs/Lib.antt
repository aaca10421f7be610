pub mod Steps
pub mod Promise
