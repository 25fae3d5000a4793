pub mod Ascii
pub mod Digits
pub mod Numbers
pub mod Text
