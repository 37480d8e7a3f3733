pub mod Texts
mod Outcomes
