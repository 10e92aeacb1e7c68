-- One turn of a tick, and the turns one after the other.
pub mod Turns
pub mod Turned
