-- How many entries fit into the log, and what counting leaves of the store meanwhile.
pub mod Fitting
pub mod Inside
