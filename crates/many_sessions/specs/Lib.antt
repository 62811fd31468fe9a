pub mod Numbered
pub mod Solo
pub mod Ends
pub mod Talks
pub mod Terms
pub mod Seats
pub mod Turns
