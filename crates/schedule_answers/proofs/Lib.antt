-- Laws of the scheduler's answers in words.
pub mod Carried
