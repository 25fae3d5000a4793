pub mod Shape
pub mod OneRecord
pub mod TakenApart
pub mod AllFit
pub mod RoundTrips
