pub mod Table
pub mod Refusals
