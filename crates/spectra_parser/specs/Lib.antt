pub mod Items
pub mod ItemViews
pub mod ItemGrammar
pub mod Texts
pub mod Wholes
pub mod Shapes
pub mod Quantifiers
