pub mod LevelLemmas
pub mod SizeLemmas
pub mod MoveLemmas
pub mod OneLemmas
