-- The facts by which one turn is proved.
pub mod OneTurn
