-- The proofs of the tick.
pub mod Lacking
pub mod Ticking
