-- Laws of the totals.
pub mod Tallying
