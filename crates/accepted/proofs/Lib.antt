pub mod Order
pub mod Look
pub mod Shape
pub mod Walked
pub mod Before
pub mod Law
pub mod Accepted
