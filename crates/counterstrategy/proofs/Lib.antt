mod Moving
mod Forcing
mod Settling
mod Labelling
mod Adding
mod Stepping
mod Turning
mod Sounding
mod Chaining
pub mod Begun
mod Turned
mod Replying
mod Completing
mod Spotting
mod Erring
mod Filling
pub mod Serving
