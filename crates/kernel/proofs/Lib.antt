pub mod Laws
pub mod Highest
pub mod Queue
pub mod Answers
pub mod Claims
mod Outcomes
