pub mod Placed
pub mod Calls
pub mod Claims
