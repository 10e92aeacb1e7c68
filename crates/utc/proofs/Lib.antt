-- Laws of the calendar.
pub mod Steps
