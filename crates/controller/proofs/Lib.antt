mod Holdings
mod Reaching
mod Chosen
mod Leading
mod Settled
mod Playing
mod Sounding
mod Turned
mod Went
mod Laters
mod Owning
pub mod Makings
mod Begun
pub mod Serving
pub mod Spotting
pub mod Remembering
