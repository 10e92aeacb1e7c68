-- The facts by which marking is proved.
pub mod Packets
pub mod Marking
pub mod Unmarking
