pub mod Levels
pub mod Sizes
pub mod Stores
pub mod Climbing
pub mod CrowdedClimbs
