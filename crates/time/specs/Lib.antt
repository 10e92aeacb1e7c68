-- Times and margins.
pub mod Time
