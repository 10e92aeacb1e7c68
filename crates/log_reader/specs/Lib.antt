-- A release log, read record by record.
pub mod Finding
pub mod Laws
