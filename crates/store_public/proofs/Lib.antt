-- What `judge` promises, and what each public call comes to where it is fine and where it refuses.
pub mod Judging
pub mod Calls
