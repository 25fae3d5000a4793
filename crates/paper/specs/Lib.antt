pub mod Paper
pub mod Print
pub mod Put
