pub mod Patterns
pub mod Rows
pub mod ToldRows
pub mod Sights
pub mod Laws
pub mod Wides
pub mod Blocks
