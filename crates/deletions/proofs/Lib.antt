-- The facts by which the deletions by window and `reset` are proved.
pub mod Clearing
