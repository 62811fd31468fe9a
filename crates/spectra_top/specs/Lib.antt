pub mod Meanings
pub mod Top
pub mod Budgets
pub mod Saying
