pub mod Columns
pub mod OnPaper
