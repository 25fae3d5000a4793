pub mod Image
pub mod Words
