pub mod TypeKinds
pub mod Notes
pub mod Bodies
pub mod NoteViews
