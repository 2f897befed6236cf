pub mod Fits
pub mod Taken
