pub mod Choosing
pub mod Stepping
