pub mod Held
pub mod Judged
