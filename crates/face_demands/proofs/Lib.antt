-- The proofs of the demands over the C face: FaceKeeping for demand 1, FaceKeepable and FaceAgreeing for the promises, FaceFollowing for what the
-- words stand for, FaceSequences for demands 2 and 3. The other files help them.
pub mod FaceSame
pub mod FaceParting
pub mod FaceKeeping
pub mod FaceAgreeing
pub mod FaceKeepable
pub mod FaceFollowing
pub mod FaceSequences
