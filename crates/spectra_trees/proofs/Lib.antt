mod Spelling
pub mod Folded
pub mod Shown
