-- What the tick promises: what every call that writes promises, and the log over the one it was given.
use Rattle.std.specs.Prelude.{Result, Ok, Err, ℕ, List, [], ◌∷◌, ◌≡◌}
use Rattle.record.specs.declared.ScheduleRefusal.{ScheduleRefusal}
use Rattle.tick.specs.declared.Handed.{Handed}
use Rattle.record.specs.Refusals.{paper}
use Rattle.record.specs.declared.Record.{Record}
use Rattle.rules.specs.Papers.{Outcome, Paper, after, through, no}
use Rattle.schedule.specs.Promise.{Does, Writes}
use Rattle.schedule.specs.State.{State, state_of}
use Rattle.schedule.specs.declared.Setup.{Setup}
use Rattle.tick.specs.Tick.{Logged}

-- the number of what was handed out, and of what is due and remains
unfoldable pub tick_paper : Result Handed ScheduleRefusal → Paper
tick_paper (Ok h) = no 0 (h.m ∷ h.remain ∷ [])
tick_paper (Err e) = paper e

abbrev pub left : Outcome Logged → Outcome State
left o = through (λ x. x.state) o

pub record Ticks (su : Setup) (r : Record) (st le ro lo : List ℕ) (o : Outcome Logged) (p : Paper) (r' : Record)
    (st' le' ro' lo' : List ℕ) : Type 0 where
  pub tables : Writes su r st le ro (left o) p r' st' le' ro'
  pub log : lo' ≡ after o lo (λ x. x.log)

-- the judged form, by what the lists stand for
pub record TickDoes (su : Setup) (r : Record) (st le ro lo : List ℕ) (call : State → Outcome Logged) (p : Paper) (r' : Record)
    (st' le' ro' lo' : List ℕ) : Type 0 where
  pub tables : Does su r st le ro (λ s. left (call s)) p r' st' le' ro'
  pub log : lo' ≡ after (call (state_of su r st le ro)) lo (λ x. x.log)
