mod Alone
mod Loops
mod Inside
pub mod Meaning
mod Plain
mod Chained
mod Standing
mod PlacesPut
mod Behind
pub mod AsWritten
pub mod ParametersMeant
