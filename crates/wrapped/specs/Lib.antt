-- The wrapped insertion's rules.
pub mod Wrapped
