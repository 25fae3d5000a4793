pub mod Encodable
pub mod OverBytes
