pub mod Events
pub mod Near
