-- What a reading of a stamp says of the bytes, and of its time.
pub mod Fits
pub mod Seconds
