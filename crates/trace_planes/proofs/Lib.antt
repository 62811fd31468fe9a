mod Placing
mod Found
mod Kept
mod InColumns
mod Walking
mod ClearRows
mod Clearing
