pub mod Grades
pub mod Sides
