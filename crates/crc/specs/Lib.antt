pub mod Crc
pub mod Examples
