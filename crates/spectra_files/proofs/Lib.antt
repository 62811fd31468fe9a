mod Placed
pub mod Readings
pub mod Unrefused
mod Fronts
mod Folders
pub mod InOrder
