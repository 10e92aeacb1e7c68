-- Whether a packet is there, and how long it is.
pub mod Presence
