-- A packet looked up.
pub mod Refusals
pub mod Calls
pub mod Promise
