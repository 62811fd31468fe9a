pub mod Entered
pub mod Known
pub mod Waiting
pub mod LineValues
pub mod MadeGames
pub mod Lines
pub mod Agreeing
pub mod Breaking
pub mod Goals
pub mod StateCounts
pub mod Agreed
pub mod FewerStates
pub mod Limits
pub mod GoalParts
pub mod Making
mod SamplesTyped
pub mod FewBits
