pub mod Sending
pub mod Reading
pub mod Playing
