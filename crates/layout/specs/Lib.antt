-- The setup of a store: its sizes, where its slots lie in what is lent, and refusals 1 to 3.
pub mod Limits
pub mod Layout
pub mod Judge
