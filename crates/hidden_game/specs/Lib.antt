pub mod GameOf
pub mod Sources
