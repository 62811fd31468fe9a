pub mod MovedLemmas
pub mod PlaceLemmas
pub mod SlotLemmas
pub mod ClimbLemmas
pub mod FillLemmas
pub mod RefusalLemmas
pub mod SearchLemmas
