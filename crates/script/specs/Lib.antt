pub mod Line
pub mod Answers
pub mod SimulationLines
pub mod Sheet
