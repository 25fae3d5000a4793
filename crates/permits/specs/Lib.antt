pub mod Names
pub mod Step
pub mod Module
pub mod Supervisor
pub mod Numbers
