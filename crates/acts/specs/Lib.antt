pub mod Act
pub mod Examples
