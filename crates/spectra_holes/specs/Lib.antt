pub mod Holed
pub mod HoleViews
pub mod Laws
