pub mod Played
pub mod CounterPlayed
