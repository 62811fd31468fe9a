pub mod Ranks
pub mod Ordered
