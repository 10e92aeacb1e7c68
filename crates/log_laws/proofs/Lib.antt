-- The reader finds what a tick hands out.
pub mod Found
