-- An answer by value, and words that are written.
-- A reader need not believe this file: contracts below the public calls cite it, no public call's promise does.
use Rattle.std.specs.Prelude.{ℕ, eqb, drop, set, cond, List, ◌++◌, ◌∷◌, ◌≡◌}
use Rattle.face_reading.specs.Reading.{word}
use Rattle.face_words.specs.Padding.{padded}
use Rattle.record.specs.Refusals.{margin_words, time_words, word_of}
use Rattle.record.specs.declared.Record.{Record}
use Rattle.rules.specs.Papers.{Paper}
use Rattle.lookup.specs.Refusals.{bit}
use Rattle.rules.specs.Lists.{each}
use Rattle.time.specs.declared.UnixTime.{UnixTime}
use Rattle.face_words.specs.declared.Words.{Words}

-- a paper's number, and its values in 8 words
abbrev pub words_of : Paper → Words
words_of p = record { number = p.number; values = padded p.values }

-- the 8 words of a list
unfoldable pub eight : List ℕ → List ℕ
eight ws = each (word ws) 0 8

-- words that are written where the number is 0 alone
unfoldable pub written_if : ℕ → List ℕ → List ℕ → List ℕ
written_if n new old = cond (eqb n 0) new old

-- the record's words with another clock, and with another record
abbrev pub clock_set : List ℕ → UnixTime → List ℕ
clock_set ws t = set (set ws 1 (word_of t.secs)) 2 t.nanos

abbrev pub record_set : List ℕ → Record → List ℕ
record_set ws r = r.count ∷ time_words r.clock (margin_words r.margin (bit r.enabled ∷ drop 6 ws))

-- an answer that was told: its number n, its words, and the record's as they are to be
pub record Tells (w : Words) (ws an : List ℕ) (n : ℕ) (ws' an' : List ℕ) : Type 0 where
  pub number : n ≡ w.number
  pub words : an' ≡ eight w.values ++ drop 8 an
  pub written : ws' ≡ ws
