pub mod OneAnswer
pub mod Laws
pub mod Listing
pub mod Telling
pub mod Saying
pub mod Example
