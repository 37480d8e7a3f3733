pub mod Exact
pub mod Opens
pub mod Lines
pub mod Fits
pub mod Ends
pub mod Prints
pub mod Decimals
pub mod Ones
pub mod Claims
mod Outcomes
