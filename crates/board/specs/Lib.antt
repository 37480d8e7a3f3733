pub mod Lent
pub mod Claims
