-- The entry that a deletion by request ID takes: in the earliest release time that has a match, the last match.
use Rattle.std.specs.Prelude.{◌+◌, suc, ℕ, eqb, get_or, length, Bool, ◌&&◌, cond, List, [], ◌∷◌}
use Rattle.rows.specs.Entries.{Entry, time}

-- what stands past the end
abbrev pub none : Entry
none = record { secs = 0; nanos = 0; id = 0; addr = 0 }

-- the index of the first entry with the ID, which is the earliest; past the end where there is none
unfoldable pub first_match : ℕ → List Entry → ℕ
first_match id [] = 0
first_match id (e ∷ es) = cond (eqb e.id id) 0 (suc (first_match id es))

-- the ID at the time t
unfoldable pub is_match : ℕ → ℕ → Entry → Bool
is_match id t e = eqb e.id id && eqb (time e) t

-- the index of the last such entry, where k is the index of the list's first; b where there is none
unfoldable pub last_match : ℕ → ℕ → ℕ → ℕ → List Entry → ℕ
last_match id t k b [] = b
last_match id t k b (e ∷ es) = last_match id t (k + 1) (cond (is_match id t e) k b) es

-- the last match at the first one's time; past the end where there is none
unfoldable pub victim : ℕ → List Entry → ℕ
victim id es = last_match id (time (get_or es (first_match id es) none)) 0 (length es) es
