-- The store's laws: OneOutcome, RefusalKeeps, StaysSound, ReadBack, OthersStay, OneToOne, WrittenThrough. The other files help them.
pub mod Numbers
pub mod Fitting
pub mod Elsewhere
pub mod Wiped
pub mod Reached
pub mod Back
pub mod OneToOne
pub mod OneOutcome
pub mod RefusalKeeps
pub mod StaysSound
pub mod OthersStay
pub mod WrittenThrough
pub mod Keeping
pub mod ReadBack
