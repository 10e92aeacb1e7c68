-- The release tick.
pub mod Tick
pub mod Promise
pub mod Inside
