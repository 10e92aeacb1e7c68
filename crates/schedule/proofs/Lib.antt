-- The facts by which the schedule's functions, and those of the calls above it, are proved.
pub mod Facts
pub mod Judging
pub mod Promises
