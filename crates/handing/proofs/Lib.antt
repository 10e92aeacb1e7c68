-- The facts by which the turns one after the other are proved.
pub mod Turning
