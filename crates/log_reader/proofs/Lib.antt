-- Laws of reading a log.
pub mod Counted
pub mod Finds
