-- Laws of the words of specs/, for every crate's proofs.
pub mod All
pub mod Back
pub mod Cases
pub mod Each
pub mod First
pub mod Order
pub mod Passing
