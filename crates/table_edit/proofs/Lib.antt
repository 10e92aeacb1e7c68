-- Laws of changes: rows copied and written, order; where an inserted entry stands, what a removal leaves, and what both keep.
pub mod Written
pub mod Ordering
pub mod WindowLeft
pub mod Relaid
pub mod Places
pub mod Stays
