mod Stretches
mod Sets
mod Paths
mod Phases
mod Different
mod Letters
mod Reached
mod Formulas
mod Tables
mod Alike
mod WordLemmas
mod Parts
mod LaidParts
pub mod PositionCounts
mod MaskWords
mod LaidLists
mod Wrapped
mod Skipped
mod MetSets
mod Walked
mod Collected
mod TableRows
mod WholeTable
pub mod FilledTables
pub mod TypedTriggers
