pub mod Copies
pub mod Back
pub mod Behind
pub mod Handing
pub mod Calls
pub mod Claims
mod Outcomes
