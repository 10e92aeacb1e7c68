-- The facts by which the gate and the stored insertion are proved.
pub mod Gates
pub mod Storing
