-- Refusals 13 and 14 of a state, by its record and by the verdict of `gate`.
use Rattle.std.specs.Prelude.{Result, Ok, Err}
use Prim.Native.Nat.{◌<◌, ◌≤◌, ℕ}
use borrow.Author.Tests.{le-ltb, lt-ltb}
use lib.ListN.{length}
use mathlib.Core.Bool.{false, true}
use mathlib.Core.List.{List}
use mathlib.Core.Path.{◌≡◌, subst, sym}
use native.Mathlib.Omega.{arith}
use Rattle.record.specs.Refusals.{paper}
use Rattle.record.specs.declared.Record.{Record}
use Rattle.record.specs.declared.ScheduleRefusal.{ScheduleRefusal}
use Rattle.record.specs.declared.ScheduleRefusal.TheVariants.{ReleaseTimeInTimeMargin, ScheduleFull}
use Rattle.rules.specs.Papers.{done, refused}
use Rattle.rules.specs.Tests.{unless}
use Rattle.table_edit.specs.Edits.{Spare, insert_sorted}
use Rattle.rows.specs.Entries.{entry_of}
use Rattle.time.specs.Time.{in_time_margin, moment_of}
use Rattle.time.specs.declared.UnixTime.{UnixTime}
use Rattle.gate.specs.Entering.{enter}
use Rattle.gate.specs.Inside.{Gate}
use Rattle.schedule.proofs.Facts.{Facts}
use Rattle.schedule.specs.State.{State, record_of, with_entries}
use Rattle.schedule.specs.declared.Setup.{Setup}

module _ (su : Setup) (t : UnixTime) (id a : ℕ) (vs : List ℕ) (s : State) where
  late_at : in_time_margin s.clock s.margin t ≡ true → enter su t id a vs s ≡ refused (paper (ReleaseTimeInTimeMargin s.clock s.margin t))
  unfolding enter unless paper
  late_at e = rw e

  full_at : in_time_margin s.clock s.margin t ≡ false → su.entries ≤ length s.entries → enter su t id a vs s ≡ refused (paper ScheduleFull)
  unfolding enter unless paper
  full_at e l = rw (e, le-ltb _ _ l)

  pub enters : in_time_margin s.clock s.margin t ≡ false → length s.entries < su.entries
      → enter su t id a vs s ≡ done vs (with_entries (insert_sorted (entry_of (moment_of t) id a) s.entries) s)
  unfolding enter unless
  enters e l = rw (e, lt-ltb _ _ l)

-- by the record
module _ (su : Setup) (r : Record) (t : UnixTime) where
  pub late : in_time_margin r.clock r.margin t ≡ true → (id a : ℕ) (vs : List ℕ) (s : State) → record_of s ≡ r
      → enter su t id a vs s ≡ refused (paper (ReleaseTimeInTimeMargin r.clock r.margin t))
  late e id a vs s q = rw (← q) (late_at su t id a vs s (rw (← q) at e))

  pub full : in_time_margin r.clock r.margin t ≡ false → su.entries ≤ r.count → (id a : ℕ) (vs : List ℕ) (s : State) → record_of s ≡ r
      → enter su t id a vs s ≡ refused (paper ScheduleFull)
  full e l id a vs s q = full_at su t id a vs s (rw (← q) at e) (subst (λ (x : Record). su.entries ≤ x.count) (sym q) l)

-- by the verdict
pub gate_refused : (su : Setup) (r : Record) (t : UnixTime) (v : Result (Unit {0}) ScheduleRefusal) (e : ScheduleRefusal) → Gate su r t v → v ≡ Err e
    → (id a : ℕ) (vs : List ℕ) (s : State) → record_of s ≡ r → enter su t id a vs s ≡ refused (paper e)
gate_refused su r t v e g q = rw q at g

pub gate_fine : (su : Setup) (r : Record) (t : UnixTime) (v : Result (Unit {0}) ScheduleRefusal) → Gate su r t v → v ≡ (Ok tt)
    → (in_time_margin r.clock r.margin t ≡ false) × (r.count < su.entries)
gate_fine su r t v g q = rw q at g

-- a row for one more
pub spare : {su : Setup} {r : Record} {st le ro : List ℕ} → Facts su r st le ro → r.count < su.entries → Spare ro r.count
spare f l = record { room = omega arith; few = omega arith }
