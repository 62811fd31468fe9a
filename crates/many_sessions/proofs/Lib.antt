pub mod ManyTalks
mod Numbering
mod Seating
mod Serving
mod Moving
mod Alone
