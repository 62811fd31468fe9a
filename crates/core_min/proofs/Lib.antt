pub mod Removed
pub mod Turns
pub mod Answered
pub mod Few
pub mod Guessed
