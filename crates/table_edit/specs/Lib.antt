-- The schedule's table, changed.
pub mod Edits
