pub mod Nearing
pub mod Bytes
