-- What a reading says of the bytes.
pub mod Readable
