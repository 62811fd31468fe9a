pub mod Over
pub mod Made
pub mod Chained
pub mod Folded
mod Written
mod Copied
mod Turns
