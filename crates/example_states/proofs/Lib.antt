pub mod Setting
pub mod Printed
