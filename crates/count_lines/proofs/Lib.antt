pub mod Length
pub mod Writing
pub mod OneAnswer
