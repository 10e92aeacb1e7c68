-- The header bits as one number, and the total within its bounds.
pub mod Bits
pub mod Bounds
