-- The count: its rule, and its answers' numbers.
pub mod Counting
pub mod Answers
