-- The facts by which windows are opened and retrieval is proved.
pub mod Openings
pub mod Retrieving
