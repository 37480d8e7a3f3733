pub mod Lending
pub mod Slicing
pub mod LendPart
pub mod LendWith
pub mod Lend1
pub mod Lend2
pub mod LendLook1
pub mod Calls
mod Outcomes
