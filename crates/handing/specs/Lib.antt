-- The turns of entries that are all handed out.
pub mod Handing
