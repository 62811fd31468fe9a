pub mod Lanes
mod Bits
mod FirstZero
mod EqualCodes
pub mod PlanesOfParts
pub mod Coded
mod Blocks
