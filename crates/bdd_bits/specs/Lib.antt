pub mod Orders
pub mod Contents
pub mod Calls
pub mod Moves
pub mod Paths
pub mod Settling
pub mod Keeping
