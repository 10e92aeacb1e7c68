-- The tick's laws: Split, Largest, Drains, Follows. The other files help them.
pub mod Fitting
pub mod Due
pub mod Split
pub mod Largest
pub mod Follows
pub mod Packets
pub mod Drains
pub mod FromLog
pub mod Premises
