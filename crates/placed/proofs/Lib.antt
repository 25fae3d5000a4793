pub mod Halving
pub mod Ascending
pub mod Runs
pub mod Noted
pub mod Listed
pub mod OfKind
pub mod Numbers
pub mod Placed
