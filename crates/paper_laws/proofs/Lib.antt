pub mod Read
pub mod OnPaper
pub mod Most
pub mod Enough
