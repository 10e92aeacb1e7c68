-- Packets marked as handed out.
pub mod Marks
pub mod Promise
pub mod Inside
