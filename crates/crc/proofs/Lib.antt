pub mod Linear
pub mod Folding
pub mod Examples
