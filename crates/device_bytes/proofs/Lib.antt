pub mod Laws
pub mod Back
pub mod InPlace
pub mod Parts
