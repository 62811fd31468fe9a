pub mod Times
pub mod Safety
pub mod Whole
pub mod Found
pub mod Moments
pub mod Readouts
pub mod Lines
