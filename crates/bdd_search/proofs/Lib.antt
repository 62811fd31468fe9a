pub mod FixLemmas
pub mod ReadLemmas
pub mod PartLemmas
pub mod OrderLemmas
pub mod FirstLemmas
