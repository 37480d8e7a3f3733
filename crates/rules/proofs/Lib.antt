-- The proofs. Each file opens with what it shows.
-- words: tests, lists, sequences of calls
pub mod Bools
pub mod Lists
pub mod Along
pub mod Outcome
-- the one place where each rule is opened: the order, the late rule, the check, the refusals
pub mod Order
pub mod Past
pub mod Checked
pub mod Refusals
pub mod Allowed
-- what every call keeps
pub mod Moves
pub mod Bare
pub mod Invariant
pub mod Step
pub mod Room
pub mod First
pub mod Reached
-- the claims
pub mod Sorted
pub mod Demand3
pub mod Broken
pub mod Edf
pub mod Priority
pub mod Unchanged
pub mod Listing
pub mod Runs
pub mod Called
pub mod Started
pub mod Vanished
pub mod Marks
pub mod Reported
pub mod Places
pub mod Counted
pub mod Reasons
pub mod Searched
pub mod Taking
pub mod Cases
pub mod Claims
mod Outcomes
