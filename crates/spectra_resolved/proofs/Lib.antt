pub mod Entered
pub mod Mapped
pub mod Digits
pub mod First
pub mod Trees
pub mod Quantified
pub mod Steps
pub mod RegexSteps
