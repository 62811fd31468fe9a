pub mod Data
pub mod Views
pub mod Classes
pub mod Lexemes
pub mod Chains
pub mod ChainViews
pub mod Faults
pub mod Laws
