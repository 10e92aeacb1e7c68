-- How every insertion ends: 13, 14, and the entry in its place; and the stored insertion, which has 4 before them.
use Rattle.std.specs.Prelude.{ℕ, ltb, length, not, List, []}
use Rattle.record.specs.Refusals.{margin_words, time_words}
use Rattle.rules.specs.Papers.{Outcome, done, no, refused}
use Rattle.rules.specs.Tests.{unless}
use Rattle.table_edit.specs.Edits.{insert_sorted}
use Rattle.rows.specs.Entries.{entry_of}
use Rattle.time.specs.Time.{in_range, in_time_margin, moment_of}
use Rattle.time.specs.declared.UnixTime.{UnixTime}
use Rattle.schedule.specs.State.{State, with_entries}
use Rattle.schedule.specs.declared.Setup.{Setup}

-- 13 where the release lies inside the margin, with clock, margin and release; 14 where the count equals the capacity; else the
-- entry takes its place, behind those of equal time. `vs` is what the call answers
unfoldable pub enter : Setup → UnixTime → ℕ → ℕ → List ℕ → State → Outcome State
enter su t id a vs s =
    unless (not (in_time_margin s.clock s.margin t))
    (refused (no 13 (time_words s.clock (margin_words s.margin (time_words t [])))))
    (unless (ltb (length s.entries) su.entries) (refused (no 14 []))
    (done vs (with_entries (insert_sorted (entry_of (moment_of t) id a) s.entries) s)))

-- 4 for a time given as an argument
unfoldable pub timed : {A : Type 0} → UnixTime → Outcome A → Outcome A
timed t o = unless (in_range t) (refused (no 4 [])) o

-- a stored insertion: the packet is in the store already; its address is not judged
unfoldable pub insert_stored_in : Setup → UnixTime → ℕ → ℕ → State → Outcome State
insert_stored_in su t id a s = timed t (enter su t id a [] s)
