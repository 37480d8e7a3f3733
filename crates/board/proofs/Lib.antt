pub mod Arg
pub mod Calls
pub mod Claims
pub mod Copies
pub mod Data
pub mod Lines
pub mod Look1
pub mod Relay
pub mod Thin1
pub mod Thin2
mod Outcomes
