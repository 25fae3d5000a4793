pub mod Read
pub mod Walk
pub mod Find
