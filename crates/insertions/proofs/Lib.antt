-- The facts by which the insertions by bytes are proved.
pub mod Activities
