-- The slots of a store: the model that its rules are written in.
pub mod Pools
pub mod View
pub mod Inside
