pub mod Numbers
pub mod Floor
pub mod Meaning
