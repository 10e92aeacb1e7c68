-- Laws of selection: by request ID, by window; and what a deletion by request ID takes.
pub mod Matches
pub mod Spans
pub mod WindowLaws
pub mod Victim
