pub mod Laid
pub mod Shifts
pub mod Changes
pub mod Scans
pub mod Lates
mod Outcomes
