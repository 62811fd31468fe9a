pub mod Found
pub mod Past
pub mod Shaped
pub mod Whole
pub mod Regexes
pub mod Named
pub mod Gathered
pub mod Counted
