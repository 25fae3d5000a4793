pub mod Examined
pub mod Stretch
pub mod InPlace
