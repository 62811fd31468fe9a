pub mod Within
pub mod Numbers
pub mod Chains
