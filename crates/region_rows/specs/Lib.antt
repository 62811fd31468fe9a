pub mod Rows
pub mod Slots
pub mod Held
pub mod Into
pub mod TraitLaws
pub mod Finds
