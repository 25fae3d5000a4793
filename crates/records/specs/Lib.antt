pub mod Kinds
pub mod Bytes
pub mod Range
pub mod Key
