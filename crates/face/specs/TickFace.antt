-- The release tick over words: what every scheduler's call that writes promises, and the log over the one that was lent.
use Rattle.std.specs.Prelude.{ℕ, List, ◌≡◌}
use Rattle.rules.specs.Papers.{Outcome, after}
use Rattle.schedule.specs.State.{State}
use Rattle.tick.specs.Promise.{left}
use Rattle.tick.specs.Tick.{Logged}
use Rattle.face.specs.ScheduleFace.{ScheduleFaces}

pub record TickFaces (sw : List ℕ) (k : ℕ) (o : Outcome Logged) (written : State → List ℕ) (rw st le ro lo an : List ℕ) (n : ℕ)
    (rw' st' le' ro' lo' an' : List ℕ) : Type 0 where
  pub tables : ScheduleFaces sw k (left o) written rw st le ro an n rw' st' le' ro' an'
  pub log : lo' ≡ after o lo (λ x. x.log)
