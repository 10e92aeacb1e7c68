-- The calls that see the record alone, over words: what each comes to, and what it promises.
use Rattle.std.specs.Prelude.{ℕ, leb, length, set, Bool, List, [], ◌≡◌}
use Rattle.record.specs.Refusals.{word_of}
use Rattle.record.specs.declared.Record.{Record}
use Rattle.rules.specs.Papers.{Outcome, after, no, refused}
use Rattle.rules.specs.Tests.{unless}
use Rattle.lookup.specs.Refusals.{bit}
use Rattle.face.specs.Face.{Answers, answering}
use Rattle.face_reading.specs.Reading.{record_from, record_words}

-- 2, BadBuffers: a record of fewer than 6 words
abbrev pub long_enough : List ℕ → Bool
long_enough rw = leb record_words (length rw)

-- the answer's room; 2 for the record's words; and then the call, 3 and 4
unfoldable pub record_call : List ℕ → List ℕ → (Record → Outcome Record) → Outcome Record
record_call an rw call = answering an (unless (long_enough rw) (refused (no 2 [])) (call (record_from rw)))

-- a call writes only the words that it changes: the clock's two, or the mark
abbrev pub clock_written : List ℕ → Record → List ℕ
clock_written rw r = set (set rw 1 (word_of r.clock.secs)) 2 r.clock.nanos

abbrev pub mark_written : List ℕ → Record → List ℕ
mark_written rw r = set rw 5 (bit r.enabled)

pub record RecordFaces (o : Outcome Record) (written : Record → List ℕ) (rw an : List ℕ) (n : ℕ) (rw' an' : List ℕ) : Type 0 where
  pub answer : Answers o an n an'
  pub words : rw' ≡ after o rw written
