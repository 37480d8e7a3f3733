pub mod Fits
pub mod Texts
