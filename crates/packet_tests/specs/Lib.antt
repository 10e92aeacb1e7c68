-- The tests of a telecommand packet.
pub mod Tests
