pub mod Sheet
pub mod Promise
