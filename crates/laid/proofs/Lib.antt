-- The lent lists from what they stand for.
pub mod Laid
