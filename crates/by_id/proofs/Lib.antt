-- The facts by which the deletions by request ID are proved.
pub mod Taking
