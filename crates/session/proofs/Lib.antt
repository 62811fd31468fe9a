pub mod Fitting
pub mod Turns
pub mod RunTalks
pub mod CounterTalks
mod Noting
pub mod Strategic
mod Countering
pub mod Logging
