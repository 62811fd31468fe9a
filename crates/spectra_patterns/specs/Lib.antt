pub mod Patterns
pub mod SoundPatterns
pub mod Triggers
pub mod TriggerParts
pub mod Laws
pub mod Hidden
pub mod Gathering
