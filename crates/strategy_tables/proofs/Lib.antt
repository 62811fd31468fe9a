pub mod Finding
pub mod Numbers
pub mod Checked
pub mod Walks
pub mod SystemWalks
pub mod SystemWins
pub mod EnvironmentWalks
pub mod EnvironmentWins
