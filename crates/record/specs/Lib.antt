-- The record and the schedule's refusals.
pub mod Refusals
pub mod Record
