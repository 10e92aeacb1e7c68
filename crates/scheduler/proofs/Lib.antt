-- The scheduler's laws: Answering (demand 1 over steps), RefusalKeeps, OneToOne, OneOutcome, StaysSound, Stepping, and Releasing
-- and Draining for the tick. The other files help them.
pub mod Numbers
pub mod Answering
pub mod RefusalKeeps
pub mod Back
pub mod OneToOne
pub mod OneOutcome
pub mod Laying
pub mod Stamps
pub mod Calls
pub mod Standing
pub mod Releasing
pub mod StaysSound
pub mod Stepping
pub mod DueFirst
pub mod Draining
pub mod Premises
