-- What the calls that hand a packet's bytes out answer.
pub mod Copied
pub mod Lending
