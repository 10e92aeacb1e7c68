-- Laws of numbers in bytes, and of runs of stores.
pub mod Sets
pub mod Width
pub mod RoundTrip
