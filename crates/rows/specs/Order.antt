-- Entries in release-time order, and in range: what judging tests (refusal 3), and what a judged form asks.
use Rattle.std.specs.Prelude.{◌*◌, ◌+◌, ◌≤◌, ℕ, leb, ltb, length, Bool, ◌&&◌, true, List, [], ◌∷◌, ◌≡◌}
use Rattle.rows.specs.Entries.{Entry, time, unpack, width}
use Rattle.time.specs.Time.{far, giga}

-- "Sizes": 1-4,096 entries
abbrev pub max_entries : ℕ
max_entries = 4096

-- seconds of at most 2^43 (2^42, counted from -2^42), and nanoseconds below a second's
abbrev pub in_range : Entry → Bool
in_range e = leb e.secs (far + far) && ltb e.nanos giga

-- each in range, and none before the one that it follows; none before t
unfoldable pub ordered_from : ℕ → List Entry → Bool
ordered_from t [] = true
ordered_from t (e ∷ es) = in_range e && (leb t (time e) && ordered_from (time e) es)

abbrev pub ordered : List Entry → Bool
ordered es = ordered_from 0 es

-- n rows lie within the words
pub record Held (w : List ℕ) (n : ℕ) : Type 0 where
  pub room : n * width ≤ length w

-- and were judged
pub record Sound (w : List ℕ) (n : ℕ) : Type 0 where
  pub room : n * width ≤ length w
  pub few : n ≤ max_entries
  pub kept : ordered (unpack n w) ≡ true
