pub mod Numbers
pub mod Spaces
pub mod Takes
