-- What is printed for a tape, piece by piece.
pub mod Pieces
pub mod Claims
