pub mod Meanings
pub mod Senses
pub mod Conditions
pub mod SameText
pub mod Worked
pub mod Spans
pub mod Resolved
pub mod Laws
