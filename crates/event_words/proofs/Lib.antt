pub mod Ascending
pub mod OneList
pub mod Sums
pub mod EachOnce
pub mod SumIsWords
pub mod Same
pub mod Along
