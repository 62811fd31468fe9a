pub mod Characters
pub mod Words
pub mod Pieces
pub mod Tokens
pub mod Faults
pub mod Progress
pub mod Slices
