pub mod Arms
pub mod Remembers
pub mod Represents
pub mod Passing
