pub mod Types
pub mod Lengths
pub mod Meanings
pub mod ItemViews
pub mod Steps
