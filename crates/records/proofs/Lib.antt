pub mod Sums
mod Outcomes
