pub mod OneFound
pub mod OneCounted
