-- What the search asks of a row: it is not before the moment.
use Prim.Native.Nat.{ℕ}
use Rattle.rows.specs.Entries.{entry}
use lib.Dec.{eqb, leb, ltb}
use mathlib.Core.Bool.{Bool, ◌&&◌, ◌||◌}
use mathlib.Core.List.{List}

abbrev pub reached : ℕ → ℕ → List ℕ → Bool
reached secs nanos r = ltb secs (entry r).secs || (eqb (entry r).secs secs && leb nanos (entry r).nanos)
