-- Words of two setups, calls of the C face, and what is said of them.
pub mod FaceGiven
pub mod FaceWitness
