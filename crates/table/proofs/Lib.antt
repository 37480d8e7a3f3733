pub mod Copied
pub mod Laws
pub mod Packed
mod Outcomes
