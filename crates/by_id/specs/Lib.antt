-- The rules of the deletions by request ID.
pub mod ById
pub mod Answers
