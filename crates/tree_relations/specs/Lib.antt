pub mod Prepared
pub mod Fits
pub mod Readings
