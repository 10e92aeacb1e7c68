-- What a search by window asks of its ends, and what a row bears.
-- A reader need not believe this file: contracts below the public calls cite it, no public call's promise does.
use Rattle.std.specs.Prelude.{ℕ, List, ◌≡◌}
use Rattle.rows.specs.Entries.{nth}
use Rattle.selection.specs.declared.MomentWindow.{MomentWindow}
use Rattle.selection.specs.declared.MomentWindow.TheVariants.{All, From, FromTo, To}
use Rattle.time.specs.Time.{MomentInRange}

-- the ends that a window has are in range
abbrev pub EndsInRange : MomentWindow → Type 0
EndsInRange All = Unit {0}
EndsInRange (FromTo f t) = MomentInRange f × MomentInRange t
EndsInRange (From f) = MomentInRange f
EndsInRange (To t) = MomentInRange t

-- row k bears a time and an ID
abbrev pub Bears : List (List ℕ) → ℕ → ℕ → ℕ → ℕ → Type 0
Bears t k secs nanos id = ((nth t k).secs ≡ secs) × ((nth t k).nanos ≡ nanos) × ((nth t k).id ≡ id)
