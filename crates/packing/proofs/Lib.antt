pub mod Accepted
pub mod Parts
pub mod InPlace
