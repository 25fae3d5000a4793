pub mod Delivering
pub mod Starting
