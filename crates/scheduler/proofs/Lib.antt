-- what a state stands for can be read back from it
pub mod Back
-- what each part of a call does is what the rule-book says
pub mod Parts
pub mod Rows
pub mod Whole
-- what the functions' proofs cite
pub mod Handed
pub mod Cases
pub mod Decided
-- and by one way for both
pub mod OneWay
pub mod Waits
pub mod Checking
pub mod Claims
mod Outcomes
