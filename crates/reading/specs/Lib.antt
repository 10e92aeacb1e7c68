-- A packet's bytes, handed out.
pub mod Reading
