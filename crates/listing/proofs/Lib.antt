pub mod Each
mod Worked
