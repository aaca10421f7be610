pub mod Content
pub mod Answers
