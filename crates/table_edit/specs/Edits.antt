-- An entry inserted, and a range of entries removed: the entries, and the words afterwards.
use Rattle.std.specs.Prelude.{◌*◌, ◌+◌, ◌<◌, ◌≤◌, ℕ, leb, drop, length, take, cond, List, [], ◌++◌, ◌∷◌}
use Rattle.rows.specs.Entries.{Entry, relaid, time, unpack, width}
use Rattle.rows.specs.Order.{max_entries}

-- release-time order, equal times in insertion order: e after every entry that is not later
unfoldable pub insert_sorted : Entry → List Entry → List Entry
insert_sorted e [] = e ∷ []
insert_sorted e (x ∷ es) = cond (leb (time x) (time e)) (x ∷ insert_sorted e es) (e ∷ x ∷ es)

-- e at index i
unfoldable pub insert_at : ℕ → Entry → List Entry → List Entry
insert_at i e es = take i es ++ e ∷ drop i es

-- without the m entries from index i
unfoldable pub without : ℕ → ℕ → List Entry → List Entry
without i m es = take i es ++ drop (i + m) es

-- the words afterwards, where n rows were entries
abbrev pub after_insert : List ℕ → ℕ → Entry → List ℕ
after_insert w n e = relaid w n (insert_sorted e (unpack n w))

abbrev pub after_remove : List ℕ → ℕ → ℕ → ℕ → List ℕ
after_remove w n i m = relaid w n (without i m (unpack n w))

-- there is a row for one more
pub record Spare (w : List ℕ) (n : ℕ) : Type 0 where
  pub room : (n + 1) * width ≤ length w
  pub few : n < max_entries
