pub mod Message
pub mod Write
