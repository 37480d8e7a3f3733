-- What tape_why prints, part by part, and what is claimed of it.
pub mod Words
pub mod Claims
