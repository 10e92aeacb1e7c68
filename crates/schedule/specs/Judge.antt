-- Refusals 1 to 3 over setup, record, store and rows together, in their order: all of 1, then all of 2, then all of 3.
use Rattle.std.specs.Prelude.{Result, None, ◌*◌, ℕ, leb, length, Bool, true, List, [], ◌∷◌, ◌≡◌}
use Rattle.record.specs.declared.ScheduleRefusal.{ScheduleRefusal}
use Rattle.record.specs.Record.{times_in_range}
use Rattle.record.specs.declared.Record.{Record}
use Rattle.rules.specs.Papers.{Outcome, done, judged_by, says}
use Rattle.rules.specs.Tests.{all_of}
use Rattle.layout.specs.Judge.{buffers_ok as store_buffers_ok, lens_ok, setup_ok as store_setup_ok}
use Rattle.rows.specs.Entries.{unpack, width}
use Rattle.rows.specs.Order.{max_entries, ordered}
use Rattle.record.specs.Refusals.{done_paper}
use Rattle.schedule.specs.State.{State, state_of}
use Rattle.schedule.specs.declared.Setup.{Setup}

-- 1, BadSetup: the store's sizes, and 1 to 4,096 entries
unfoldable pub setup_ok : Setup → Bool
setup_ok su = all_of (store_setup_ok su.store ∷ leb 1 su.entries ∷ leb su.entries max_entries ∷ [])

-- 2, BadBuffers: by the lengths of the lent store, length table and rows
unfoldable pub buffers_ok : Setup → ℕ → ℕ → ℕ → Bool
buffers_ok su room lens rows = all_of (store_buffers_ok su.store room lens ∷ leb (su.entries * width) rows ∷ [])

-- 3, StateDamaged: count above capacity, the record's clock or margin out of range, entries out of time order or a row's time
-- out of range, a length neither free nor within its slot
unfoldable pub state_ok : Setup → Record → List ℕ → List ℕ → Bool
state_ok su r lens rows =
    all_of
    (leb r.count su.entries ∷
    times_in_range r ∷
    ordered (unpack r.count rows) ∷
    lens_ok su.store lens ∷
    [])

-- the first of them whose test fails, and else what the call comes to
unfoldable pub judging : {A : Type 0} → Setup → Record → List ℕ → List ℕ → List ℕ → (State → Outcome A) → Outcome A
judging su r st le ro call =
    judged_by (setup_ok su) (buffers_ok su (length st) (length le) (length ro)) (state_ok su r le ro) (call (state_of su r st le ro))

-- what judging alone answers: none of 1 to 3, or which of them every call is given
abbrev pub Judges : Setup → Record → List ℕ → List ℕ → List ℕ → Result (Unit {0}) ScheduleRefusal → Type 0
Judges su r st le ro v = done_paper v ≡ says (judging {A = Unit {0}} su r st le ro (λ s. done [] tt))

-- None of 1 to 3 is given: what a judged call asks of its caller, and gives back.
pub record Sound (su : Setup) (r : Record) (st le ro : List ℕ) : Type 0 where
  pub setup : setup_ok su ≡ true
  pub buffers : buffers_ok su (length st) (length le) (length ro) ≡ true
  pub state : state_ok su r le ro ≡ true
