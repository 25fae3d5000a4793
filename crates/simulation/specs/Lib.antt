pub mod Play
pub mod Numbers
