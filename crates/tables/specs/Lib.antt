pub mod Parts
pub mod Tables
pub mod Agreement
pub mod Told
