pub mod Pieces
pub mod Taking
