-- Laws of the search by time.
pub mod Reached
pub mod Before
