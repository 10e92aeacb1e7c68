-- The schedule's state, refusals 1 to 3 over all of it, and what its calls promise.
pub mod State
pub mod Judge
pub mod Promise
pub mod Inside
