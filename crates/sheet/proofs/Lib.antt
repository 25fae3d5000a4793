pub mod Playing
pub mod Bytes
