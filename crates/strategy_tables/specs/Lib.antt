pub mod Tables
pub mod Rules
pub mod Sound
pub mod Games
pub mod Views
