pub mod Answer
pub mod Flow
pub mod Parts
