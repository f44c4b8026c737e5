pub mod CauseText
pub mod Fits
pub mod StepText
pub mod Summary
pub mod Text
pub mod Words
