-- For the functions below the calls of the C face.
pub mod Inside
