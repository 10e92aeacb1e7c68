-- What is known of a packet that was found or refused.
pub mod Numbers
pub mod Judging
pub mod Within
pub mod Packets
pub mod Finding
