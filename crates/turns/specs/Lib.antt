-- What a tick hands out.
pub mod Released
