-- What judging a fresh start answers, and the record that it begins with.
-- A reader need not believe this file: contracts below the public calls cite it, no public call's promise does.
use Rattle.std.specs.Prelude.{Result, Ok, Err, ℕ, true, [], ◌≡◌}
use Rattle.record.specs.declared.ScheduleRefusal.{ScheduleRefusal}
use Rattle.record.specs.Refusals.{paper}
use Rattle.record.specs.declared.Record.{Record}
use Rattle.rules.specs.Papers.{Outcome, done, refused}
use Rattle.schedule.specs.Judge.{buffers_ok, setup_ok}
use Rattle.schedule.specs.State.{State}
use Rattle.schedule.specs.declared.Setup.{Setup}
use Rattle.starting.specs.Starting.{fresh_state, start_in}
use Rattle.time.specs.declared.Margin.{Margin}
use Rattle.time.specs.declared.UnixTime.{UnixTime}

-- the record that a fresh start begins with
abbrev pub start_record : UnixTime → Margin → Record
start_record clock margin = record { count = 0; clock = clock; margin = margin; enabled = true }

-- the fresh start's 1, 2 and 4: none is given, or which
unfoldable pub started_as : Setup → UnixTime → Margin → Result (Unit {0}) ScheduleRefusal → Outcome State
started_as su clock margin (Ok _) = done [] (fresh_state su clock margin)
started_as su clock margin (Err e) = refused (paper e)

abbrev pub Passed : Setup → ℕ → ℕ → ℕ → Result (Unit {0}) ScheduleRefusal → Type 0
Passed su room lens rows (Ok _) = (setup_ok su ≡ true) × (buffers_ok su room lens rows ≡ true)
Passed su room lens rows (Err e) = Unit {0}

pub record StartJudges (su : Setup) (room lens rows : ℕ) (clock : UnixTime) (margin : Margin) (v : Result (Unit {0}) ScheduleRefusal) : Type 0 where
  pub same : started_as su clock margin v ≡ start_in su room lens rows clock margin
  pub passed : Passed su room lens rows v
