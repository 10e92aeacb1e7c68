-- Words of digits, read and written: what a reader must believe of them.
pub mod Digits
