-- The facts by which the count is proved.
pub mod Counting
