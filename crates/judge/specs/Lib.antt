pub mod Judge
pub mod Represents
pub mod Past
