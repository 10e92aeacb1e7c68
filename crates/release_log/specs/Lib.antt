-- The release log.
pub mod Log
pub mod Reading
