pub mod Alike
pub mod Naming
pub mod Marking
pub mod Adding
pub mod Ending
pub mod Claiming
