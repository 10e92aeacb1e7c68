-- The premises are met.
pub mod FacePremises
