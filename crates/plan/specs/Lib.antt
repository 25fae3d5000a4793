pub mod Plan
pub mod Fields
