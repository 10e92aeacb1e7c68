-- Laws of rows: rows read and written, order, and judging.
pub mod Rows
pub mod Order
pub mod Judging
