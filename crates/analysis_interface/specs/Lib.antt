pub mod Analysis
pub mod Counts
