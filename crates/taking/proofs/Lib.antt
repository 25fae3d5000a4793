pub mod States
pub mod Steps
