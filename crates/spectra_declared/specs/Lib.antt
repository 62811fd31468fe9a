pub mod Items
pub mod ItemViews
pub mod MentionViews
pub mod Declarations
pub mod LimitViews
pub mod Wholes
pub mod WholeViews
