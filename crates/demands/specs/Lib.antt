-- The demands, over lent tables: what each request's call promises, calls one after another, and the demands themselves.
pub mod Calling
pub mod Following
pub mod Demands
