-- Laws of the words that the C face writes.
pub mod Told
pub mod Signed
pub mod Written
pub mod Eight
