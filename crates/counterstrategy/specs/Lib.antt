pub mod Forced
pub mod Places
pub mod Settled
pub mod Turns
pub mod Owned
pub mod Made
pub mod Objects
pub mod Spots
