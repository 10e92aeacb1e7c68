-- Time stamps.
pub mod Stamp
