pub mod Length
pub mod Input
