pub mod WordLaws
pub mod IntoLaws
pub mod RowLaws
pub mod FindLaws
pub mod Tabled
pub mod GoalLaws
