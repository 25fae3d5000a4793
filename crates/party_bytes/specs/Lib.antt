pub mod Module
pub mod Supervisor
