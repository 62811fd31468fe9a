pub mod Scopes
pub mod Ends
