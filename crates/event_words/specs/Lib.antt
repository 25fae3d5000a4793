pub mod Words
pub mod Listed
pub mod Table
