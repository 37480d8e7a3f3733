pub mod Numbers
pub mod Records
pub mod Tables
pub mod Tapes
pub mod Sizes
pub mod Kept
pub mod Handing
pub mod Writing
pub mod Claims
mod Outcomes
