-- The calendar.
pub mod Calendar
pub mod Inside
