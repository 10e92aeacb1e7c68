-- The proof of demand 3: Demand; what is struck: Striking; what meets its premises: Premises. The other files help it.
pub mod Striking
pub mod Premises
pub mod Grow
pub mod Choosing
pub mod Alike
pub mod StoreCalls
pub mod Entries
pub mod States
pub mod Inserting
pub mod Deleting
pub mod Ticking
pub mod Steps
pub mod Fresh
pub mod Demand
pub mod Spilling
pub mod HighestFirst
