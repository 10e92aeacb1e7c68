-- The facts by which storing and entering are proved.
pub mod Adding
