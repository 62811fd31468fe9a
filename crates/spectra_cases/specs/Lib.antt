pub mod Formulas
pub mod ReadingViews
pub mod Sizes
pub mod SizeViews
pub mod Choices
pub mod Wholes
pub mod Laws
