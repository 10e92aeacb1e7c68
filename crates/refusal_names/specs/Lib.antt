-- What to read of the words in which this crate's promises are written.
pub mod Names
