pub mod Parts
pub mod States
pub mod Lines
pub mod Takes
pub mod Bytes
