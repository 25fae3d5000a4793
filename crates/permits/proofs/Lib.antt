pub mod Naming
pub mod Stepping
