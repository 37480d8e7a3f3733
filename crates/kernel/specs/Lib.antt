pub mod Dispatch
pub mod Claims
