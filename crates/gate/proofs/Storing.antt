-- What a stored insertion comes to, by what its tests said.
use Rattle.std.specs.Prelude.{Result, Ok, Err}
use Prim.Native.Nat.{◌+◌, ◌<◌, ℕ}
use lib.ListN.{length}
use mathlib.Core.Bool.{false, true}
use mathlib.Core.List.{List, []}
use mathlib.Core.Path.{◌≡◌, ◌∙◌, ap, sym}
use native.Mathlib.Omega.{arith}
use Rattle.record.specs.Refusals.{done_paper, paper}
use Rattle.record.specs.declared.Record.{Record}
use Rattle.record.specs.declared.ScheduleRefusal.{ScheduleRefusal}
use Rattle.record.specs.declared.ScheduleRefusal.TheVariants.{BadTime}
use Rattle.rules.specs.Papers.{done, no}
use Rattle.rules.specs.Tests.{unless}
use Rattle.laid.proofs.Laid.{leaves_same}
use Rattle.rows.proofs.Rows.{length_unpack}
use Rattle.table_edit.proofs.Stays.{insert_number}
use Rattle.table_edit.specs.Edits.{after_insert, insert_sorted}
use Rattle.rows.specs.Entries.{entry_of, unpack}
use Rattle.time.specs.Time.{in_range, in_time_margin, moment_of}
use Rattle.time.specs.declared.UnixTime.{UnixTime}
use Rattle.gate.specs.Entering.{insert_stored_in, timed}
use Rattle.gate.specs.Inside.{Gate}
use Rattle.schedule.specs.State.{State, record_of, state_of, with_count, with_entries}
use Rattle.schedule.specs.Promise.{Does}
use Rattle.schedule.specs.declared.Setup.{Setup}
use Rattle.gate.proofs.Gates.{enters, gate_refused}
use Rattle.schedule.proofs.Promises.{does_done, does_refused, record_same}

module _ (su : Setup) (r : Record) (st le ro : List ℕ) (t : UnixTime) (id a : ℕ) where
  pub stored_bad : in_range t ≡ false → Does su r st le ro (insert_stored_in su t id a) (done_paper (Err BadTime)) r st le ro
  unfolding insert_stored_in timed unless done_paper paper
  stored_bad e = does_refused su r st le ro (insert_stored_in su t id a) (no 4 []) (rw e)

  pub stored_refused : (v : Result (Unit {0}) ScheduleRefusal) (e : ScheduleRefusal) → in_range t ≡ true → Gate su r t v → v ≡ Err e
      → Does su r st le ro (insert_stored_in su t id a) (done_paper (Err e)) r st le ro
  unfolding insert_stored_in timed unless done_paper
  stored_refused v e i g q =
      does_refused su r st le ro (insert_stored_in su t id a) (paper e)
      (rw i (gate_refused su r t v e g q id a [] (state_of su r st le ro) (record_same su r st le ro)))

  -- the state after it
  after_stored : State
  after_stored = with_entries (insert_sorted (entry_of (moment_of t) id a) (unpack r.count ro)) (state_of su r st le ro)

  next_record : record_of after_stored ≡ with_count (r.count + 1) r
  unfolding after_stored state_of
  next_record = ap (λ (n : ℕ). with_count n r) (insert_number ro r.count (entry_of (moment_of t) id a))

  stored_is : in_range t ≡ true → in_time_margin r.clock r.margin t ≡ false → r.count < su.entries
      → insert_stored_in su t id a (state_of su r st le ro) ≡ done [] after_stored
  unfolding insert_stored_in timed unless state_of after_stored
  stored_is i e l =
      let h : length (unpack r.count ro) < su.entries = omega (arith, length_unpack r.count ro) in
      rw i (enters su t id a [] (state_of su r st le ro) e h)

  pub stored_done : (ro' : List ℕ) (n : Record) → in_range t ≡ true → in_time_margin r.clock r.margin t ≡ false → r.count < su.entries
      → n ≡ with_count (r.count + 1) r → ro' ≡ after_insert ro r.count (entry_of (moment_of t) id a)
      → Does su r st le ro (insert_stored_in su t id a) (done_paper (Ok tt)) n st le ro'
  unfolding done_paper after_stored state_of
  stored_done ro' n i e l p q =
      rw (p ∙ sym next_record)
      (does_done su r st le ro (insert_stored_in su t id a) [] after_stored st le ro' (stored_is i e l) (leaves_same su.store st le) q)
