pub mod Lines
pub mod Copy
