pub mod Products
pub mod Early
