mod Meant
mod Requests
mod Decisive
mod Decided
mod Causes
mod Statuses
mod Enough
