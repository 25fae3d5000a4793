pub mod Lines
pub mod Takes
