-- The words of the tick's laws.
pub mod Due
pub mod Laws
pub mod Draining
pub mod Premises
