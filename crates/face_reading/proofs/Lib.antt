-- Laws of the words that the C face reads.
pub mod Narrow
pub mod Seconds
pub mod Standing
