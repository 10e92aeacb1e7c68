-- Laws of a setup: which slots it has, where their rows and bytes lie, and what judging says.
pub mod Cases
pub mod Layouts
pub mod Lengths
pub mod Bounds
pub mod RowOf
