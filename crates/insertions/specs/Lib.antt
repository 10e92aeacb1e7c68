-- The rules of the insertions by bytes.
pub mod Inserting
