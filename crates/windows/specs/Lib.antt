-- The rules of windows.
pub mod Windowing
pub mod Answers
pub mod Inside
