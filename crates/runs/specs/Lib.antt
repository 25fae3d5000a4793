pub mod Listing
pub mod Run
