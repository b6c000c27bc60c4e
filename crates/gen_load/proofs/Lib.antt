pub mod Fits
pub mod Programs
