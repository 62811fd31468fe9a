pub mod Tables
pub mod Entries
pub mod Digests
pub mod Bits
pub mod Laws
