-- Laws of the log's bytes: its sizes, how it is put together, and what a reader finds in it.
pub mod Sizes
pub mod Putting
pub mod Whole
pub mod ReadBack
pub mod Places
