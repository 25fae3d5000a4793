pub mod Frame
pub mod Calls
