-- The rule of a sweep: what becomes of the packets of several entries.
pub mod Sweep
pub mod Answers
pub mod Inside
