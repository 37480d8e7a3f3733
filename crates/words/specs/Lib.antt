pub mod Bounds
pub mod Pages
