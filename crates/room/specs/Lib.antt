-- Demand 3: room never changes an answer.
pub mod Room
pub mod Striking
pub mod Premises
pub mod Grown
pub mod FreeSlot
pub mod Spilling
