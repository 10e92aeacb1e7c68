-- Why the table gives the check code, and why folding keeps it.
pub mod Feeding
pub mod Folding
pub mod Linear
pub mod Lookup
pub mod Taking
pub mod Widths
pub mod Xor
