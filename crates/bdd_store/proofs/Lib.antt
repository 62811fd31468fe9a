pub mod Whole
pub mod Counts
pub mod Reclaiming
pub mod Held
