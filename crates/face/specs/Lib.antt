-- The C face (include/silotwist.h): what a reader must believe, in this order, after face_reading's Reading and face_words' Padding.
pub mod Face
pub mod StoreFace
pub mod RecordFace
pub mod ScheduleFace
pub mod TickFace
