pub mod Fitting
pub mod Notes
pub mod Planned
pub mod Serving
