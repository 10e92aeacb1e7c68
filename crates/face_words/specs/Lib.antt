-- The words that the C face writes (include/silotwist.h): what a reader must believe of them. Inside is for the functions below the calls.
pub mod Padding
pub mod Inside
