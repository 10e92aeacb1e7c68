-- Laws of digits.
pub mod Laws
