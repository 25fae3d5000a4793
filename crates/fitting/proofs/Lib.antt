pub mod Every
pub mod Parts
