-- The worked lines marked T.
pub mod Lines
