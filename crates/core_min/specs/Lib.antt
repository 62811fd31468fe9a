pub mod Sets
pub mod Judges
pub mod Known
