pub mod Device
pub mod Numbers
