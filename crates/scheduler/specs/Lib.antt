-- The scheduler's requests and steps, and the words of its laws.
pub mod Steps
pub mod Fits
pub mod Words
pub mod Laws
pub mod OneOutcome
pub mod Premises
