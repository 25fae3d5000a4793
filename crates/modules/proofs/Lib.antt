pub mod Calls
pub mod Chosen
pub mod Queue
pub mod Steps
pub mod Ticks
