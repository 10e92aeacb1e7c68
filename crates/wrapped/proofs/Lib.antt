-- The facts by which the wrapped insertion is proved.
pub mod Wrapping
