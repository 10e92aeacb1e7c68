-- The public tick: judged, and then carried out.
pub mod Promised
