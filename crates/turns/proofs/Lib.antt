-- The facts by which the release is proved.
pub mod Room
pub mod Releasing
