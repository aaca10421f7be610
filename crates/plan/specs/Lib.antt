pub mod Plans
pub mod Journal
