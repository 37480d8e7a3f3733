pub mod Listed
pub mod Inside
