-- The rules of 13 and 14, and of the stored insertion.
pub mod Entering
pub mod Inside
