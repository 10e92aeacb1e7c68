-- The demands over calls of the C face (include/silotwist.h): what each promises, such calls one after another, what they stand for, and the
-- demands themselves.
pub mod FaceCalling
pub mod FaceStanding
pub mod FaceDemands
