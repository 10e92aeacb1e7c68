-- A slot written in the lent lists is a slot edited in the view; what the calls promise from that; rows and fresh lists.
pub mod Slots
pub mod Wrote
pub mod Edit
pub mod Rows
pub mod Promises
pub mod Modifying
pub mod Chosen
pub mod Start
