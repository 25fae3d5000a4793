pub mod Own
pub mod Queue
pub mod Procedure
pub mod Turn
pub mod Fits
pub mod StepFields
pub mod Numbers
