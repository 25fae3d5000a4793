pub mod Floats
pub mod Reading
pub mod Writing
pub mod Back
