pub mod OrderLemmas
pub mod RenamingLemmas
pub mod CallLemmas
pub mod ShiftLemmas
pub mod PathLemmas
pub mod FirstLemmas
pub mod KeepingLemmas
