-- The words that the C face reads (include/silotwist.h): what a reader must believe of them. Inside is for the functions below the calls.
pub mod Reading
pub mod Inside
