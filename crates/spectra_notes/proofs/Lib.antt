pub mod Noting
mod Elements
