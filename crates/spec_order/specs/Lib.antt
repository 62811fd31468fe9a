pub mod Orders
pub mod Reports
pub mod Crowded
pub mod Scenes
