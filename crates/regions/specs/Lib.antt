pub mod Kept
pub mod Rules
pub mod Worked
pub mod Laws
