-- The rows that a window of time selects, and the row that a request ID does.
pub mod Windows
pub mod Match
pub mod Inside
