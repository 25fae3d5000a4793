pub mod LookUp
pub mod Rules
pub mod Check
pub mod Valid
