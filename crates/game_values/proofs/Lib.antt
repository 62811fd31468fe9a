pub mod Lists
pub mod Spans
pub mod Safe
pub mod Letters
pub mod Typed
pub mod TableSteps
pub mod Belows
pub mod WholeTables
