-- The fresh start: its rule and promise, and what its judging answers.
pub mod Starting
pub mod Inside
