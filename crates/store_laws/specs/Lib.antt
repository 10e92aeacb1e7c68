-- The words of the store's laws.
pub mod Requests
pub mod Fits
