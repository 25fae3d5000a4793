pub mod Number
pub mod Partial
pub mod Hex
