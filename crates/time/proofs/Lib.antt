-- Signed seconds and their unsigned count; how large a signed result is; judged times.
pub mod Carry
pub mod Judged
pub mod Sign
pub mod Signed
pub mod Size
