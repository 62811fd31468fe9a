pub mod Greatest
pub mod Winning
pub mod Holdings
mod Told
mod Naming
mod Waits
pub mod Lists
pub mod Popped
pub mod Parted
pub mod Climbed
pub mod Counted
pub mod Turned
pub mod Givings
pub mod Rounds
pub mod Won
pub mod Walked
