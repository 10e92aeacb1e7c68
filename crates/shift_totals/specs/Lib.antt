-- What a shift report counts.
pub mod Tally
