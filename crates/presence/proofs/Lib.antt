-- What the calls that tell of a packet answer.
pub mod Asks
