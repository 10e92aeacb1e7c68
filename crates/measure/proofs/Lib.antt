-- The facts by which counting is proved.
pub mod Leaving
pub mod Measuring
