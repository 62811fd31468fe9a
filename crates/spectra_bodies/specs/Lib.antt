pub mod Places
pub mod PutIn
pub mod SoundBounds
pub mod Unmeant
pub mod Faults
pub mod BasisViews
pub mod Laws
