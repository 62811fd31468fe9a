pub mod ByUses
pub mod Numbers
pub mod Types
pub mod Cycles
pub mod TypeViews
