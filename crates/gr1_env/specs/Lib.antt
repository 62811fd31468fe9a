pub mod Solution
pub mod Held
pub mod Givens
pub mod Solved
pub mod Moment
pub mod Told
