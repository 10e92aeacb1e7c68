-- Windows of time: all, from-to, from, to (document 01, "Schedule rules").
use Rattle.std.specs.Prelude.{◌+◌, ◌≤◌, ℕ, eqb, leb, length, Bool, ◌&&◌, cond, not, true, List, [], ◌∷◌, ◌≡◌}
use Rattle.rows.specs.Entries.{Entry, time, unpack}
use Rattle.table.specs.Before.{below}
use Rattle.time.specs.Time.{instant_of}
use Rattle.selection.specs.declared.MomentWindow.{MomentWindow}
use Rattle.selection.specs.declared.MomentWindow.TheVariants.{All, From, FromTo, To}

-- both ends belong to it; an end that it has not excludes nothing
unfoldable pub within : MomentWindow → Entry → Bool
within All e = true
within (FromTo f t) e = leb (instant_of f) (time e) && leb (time e) (instant_of t)
within (From f) e = leb (instant_of f) (time e)
within (To t) e = leb (time e) (instant_of t)

-- the entries that pass a test
unfoldable pub filter : (Entry → Bool) → List Entry → List Entry
filter p [] = []
filter p (e ∷ es) = cond (p e) (e ∷ filter p es) (filter p es)

abbrev pub in_window : MomentWindow → List Entry → List Entry
in_window w es = filter (within w) es

abbrev pub outside : MomentWindow → List Entry → List Entry
outside w es = filter (λ e. not (within w e)) es

-- where its rows begin, and where those behind it do
unfoldable pub start_of : MomentWindow → List Entry → ℕ
start_of All es = 0
start_of (FromTo f t) es = below (instant_of f) es
start_of (From f) es = below (instant_of f) es
start_of (To t) es = 0

unfoldable pub end_of : MomentWindow → List Entry → ℕ
end_of All es = length es
end_of (FromTo f t) es = below (instant_of t + 1) es
end_of (From f) es = length es
end_of (To t) es = below (instant_of t + 1) es

-- retrieval: the first row of the window, row 0 where it has none
unfoldable pub first_row : MomentWindow → List Entry → ℕ
first_row w es = cond (eqb (length (in_window w es)) 0) 0 (start_of w es)

pub record Retrieves (w : MomentWindow) (rows : List ℕ) (count first number : ℕ) : Type 0 where
  pub row : first ≡ first_row w (unpack count rows)
  pub many : number ≡ length (in_window w (unpack count rows))
  pub bound : first + number ≤ count
