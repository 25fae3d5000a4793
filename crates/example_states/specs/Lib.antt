pub mod Printed
pub mod Setting
