pub mod Groups
pub mod Round
pub mod Turns
pub mod Writes
mod Outcomes
