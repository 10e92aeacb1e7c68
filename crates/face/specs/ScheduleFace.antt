-- The scheduler's calls over words: what each comes to, and what it promises.
use Rattle.std.specs.Prelude.{ℕ, drop, length, set, List, [], ◌∷◌, ◌≡◌}
use Rattle.record.specs.Refusals.{margin_words, time_words}
use Rattle.record.specs.declared.Record.{Record}
use Rattle.rules.specs.Papers.{Outcome, after, no, refused}
use Rattle.rules.specs.Tests.{unless}
use Rattle.schedule.specs.Judge.{judging, setup_ok}
use Rattle.schedule.specs.State.{State}
use Rattle.schedule.specs.declared.Setup.{Setup}
use Rattle.lookup.specs.Refusals.{bit}
use Rattle.slots.specs.View.{lens_with, store_with}
use Rattle.rows.specs.Entries.{relaid}
use Rattle.face.specs.Face.{Answers, answering}
use Rattle.face_reading.specs.Reading.{record_from, record_words, setup_from, store_setup, well_counted}
use Rattle.face.specs.RecordFace.{long_enough}

-- the answer's room; all of 1, the number of setup words first; then all of 2, the record's words first; and then as the call judges
unfoldable pub schedule_call : {A : Type 0} → List ℕ → List ℕ → List ℕ → (Setup → Record → Outcome A) → Outcome A
schedule_call an sw rw call =
    answering an
    (unless (well_counted sw) (refused (no 1 []))
    (unless (setup_ok (setup_from sw)) (refused (no 1 []))
    (unless (long_enough rw) (refused (no 2 [])) (call (setup_from sw) (record_from rw)))))

-- a call that judges 1, 2 and 3
unfoldable pub judged_call : {A : Type 0} → List ℕ → List ℕ → List ℕ → List ℕ → List ℕ → List ℕ → (Setup → State → Outcome A) → Outcome A
judged_call an sw rw st le ro call = schedule_call an sw rw (λ su r. judging su r st le ro (call su))

-- a call writes only the words of the record that it changes: the count; the count and 0 for disabled; or, a fresh start, all six
abbrev pub count_written : List ℕ → State → List ℕ
count_written rw s = set rw 0 (length s.entries)

abbrev pub reset_written : List ℕ → State → List ℕ
reset_written rw s = set (set rw 0 (length s.entries)) 5 0

abbrev pub all_written : List ℕ → State → List ℕ
all_written rw s = length s.entries ∷ time_words s.clock (margin_words s.margin (bit s.enabled ∷ drop record_words rw))

-- what a call that writes promises; of the rows the first k held entries: as many as the record counted, and of a fresh start all of the setup
pub record ScheduleFaces (sw : List ℕ) (k : ℕ) (o : Outcome State) (written : State → List ℕ) (rw st le ro an : List ℕ) (n : ℕ)
    (rw' st' le' ro' an' : List ℕ) : Type 0 where
  pub answer : Answers o an n an'
  pub words : rw' ≡ after o rw written
  pub store : st' ≡ after o st (λ s. store_with (store_setup sw) st s.pools)
  pub lens : le' ≡ after o le (λ s. lens_with (store_setup sw) le s.pools)
  pub rows : ro' ≡ after o ro (λ s. relaid ro k s.entries)
