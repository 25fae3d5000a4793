pub mod Reading
pub mod Writing
pub mod Encoded
pub mod Decoded
pub mod Parts
