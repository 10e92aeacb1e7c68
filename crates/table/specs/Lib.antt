-- The schedule's table, searched by time.
pub mod Before
