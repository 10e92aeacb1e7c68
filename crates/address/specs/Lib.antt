-- Store addresses.
pub mod Address
