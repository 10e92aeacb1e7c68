-- What is said of one call on a sound scheduler: it did what the step of its request says, and the scheduler is sound again.
use Rattle.demands.specs.Calling.{Lent}
use Rattle.schedule.specs.Judge.{Sound}
use Rattle.schedule.specs.State.{State, state_of}
use Rattle.schedule.specs.declared.Setup.{Setup}
use Rattle.scheduler.specs.Steps.{Answer, Request, step}
use Rattle.std.specs.Prelude.{◌≡◌}

-- what is lent stands for a state, and is sound
abbrev pub stands : Setup → Lent → State
stands su t = state_of su t.rec t.store t.lens t.rows

abbrev pub Fine : Setup → Lent → Type 0
Fine su t = Sound su t.rec t.store t.lens t.rows

-- u and the answer x are what the step of q leaves and answers
pub record Follows (su : Setup) (q : Request) (t : Lent) (x : Answer) (u : Lent) : Type 0 where
  pub sound : Fine su u
  pub answer : x ≡ (step su q (stands su t)).answer
  pub state : stands su u ≡ (step su q (stands su t)).state
