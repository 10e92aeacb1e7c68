-- How many entries lie before a moment: each search by time is one of these.
use Rattle.std.specs.Prelude.{suc, ℕ, ltb, cond, List, [], ◌∷◌}
use Rattle.rows.specs.Entries.{Entry, time}

-- how many entries at the front lie before the moment t
unfoldable pub below : ℕ → List Entry → ℕ
below t [] = 0
below t (e ∷ es) = cond (ltb (time e) t) (suc (below t es)) 0
