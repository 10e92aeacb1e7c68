-- The check code.
pub mod CheckCode
pub mod Inside
