pub mod Walks
pub mod Bytes
pub mod Encoding
