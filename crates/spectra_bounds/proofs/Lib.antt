pub mod Made
pub mod Judging
pub mod Marks
mod Sound
mod Found
mod Names
