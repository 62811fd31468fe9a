pub mod Exchanges
mod Verified
mod Exported
mod Many
