-- The rule by which every insertion by bytes ends.
pub mod Entered
pub mod Answers
pub mod Inside
