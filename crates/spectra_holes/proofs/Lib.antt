pub mod Holes
pub mod Stays
