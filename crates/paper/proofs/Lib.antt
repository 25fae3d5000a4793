pub mod Lengths
pub mod Bodies
pub mod Put
pub mod Walked
pub mod Answer
