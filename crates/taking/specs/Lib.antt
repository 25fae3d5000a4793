pub mod Taken
pub mod TakingIn
