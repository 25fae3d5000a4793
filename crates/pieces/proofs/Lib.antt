pub mod Cut
pub mod Bytes
pub mod Taking
pub mod Gathering
