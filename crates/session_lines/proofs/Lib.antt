mod Assigned
mod Feeds
mod GivenValues
pub mod HandingLemmas
pub mod HowOften
mod InOrder
mod OneReading
mod Printing
mod Rooms
pub mod ShownIsRead
mod Slices
mod Values
mod Words
pub mod TypedNames
