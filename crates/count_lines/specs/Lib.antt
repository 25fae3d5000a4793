pub mod Lines
pub mod Post
