-- a line, the lines, and the whole print
pub mod Parts
pub mod Listing
pub mod Prints
pub mod Whole
pub mod Fits
pub mod Claims
mod Outcomes
