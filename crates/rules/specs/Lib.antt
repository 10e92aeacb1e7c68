-- What the other crates' definitions are written in.
pub mod Tests
pub mod Lists
pub mod Papers
pub mod Inside
