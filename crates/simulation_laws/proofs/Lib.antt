pub mod Wire
pub mod Party
pub mod Line
pub mod Few
pub mod Whole
