-- The facts by which the fresh start is proved.
pub mod Starting
