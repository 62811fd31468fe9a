pub mod Owned
pub mod Told
pub mod Positions
pub mod Wanted
pub mod Counts
