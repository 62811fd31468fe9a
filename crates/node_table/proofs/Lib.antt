pub mod Slots
pub mod Meaning
pub mod Marking
pub mod Walking
pub mod Sweeping
pub mod Adding
