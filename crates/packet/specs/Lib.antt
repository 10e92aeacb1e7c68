-- Telecommand packets.
pub mod Packet
