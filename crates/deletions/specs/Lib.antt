-- The rules of the deletions by window and of `reset`.
pub mod Deleting
pub mod Answers
pub mod Inside
