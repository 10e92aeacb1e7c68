-- What the gate answers: neither 13 nor 14, or which of them.
-- A reader need not believe this file: contracts below the public calls cite it, no public call's promise does.
use Rattle.std.specs.Prelude.{Result, Ok, Err, ◌<◌, ℕ, false, List, ◌≡◌}
use Rattle.record.specs.declared.ScheduleRefusal.{ScheduleRefusal}
use Rattle.record.specs.Refusals.{paper}
use Rattle.record.specs.declared.Record.{Record}
use Rattle.rules.specs.Papers.{refused}
use Rattle.schedule.specs.State.{State, record_of}
use Rattle.schedule.specs.declared.Setup.{Setup}
use Rattle.time.specs.Time.{in_time_margin}
use Rattle.time.specs.declared.UnixTime.{UnixTime}
use Rattle.gate.specs.Entering.{enter}

-- neither 13 nor 14, or which of them every entry of that time is given, whatever the store holds
abbrev pub Gate : Setup → Record → UnixTime → Result (Unit {0}) ScheduleRefusal → Type 0
Gate su r t (Ok _) = (in_time_margin r.clock r.margin t ≡ false) × (r.count < su.entries)
Gate su r t (Err e) = (id a : ℕ) (vs : List ℕ) (s : State) → record_of s ≡ r → enter su t id a vs s ≡ refused (paper e)
