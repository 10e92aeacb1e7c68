-- The lowest free slot first is needed: with the highest first, a slot more behind those there would change the answer to an addition.
use Prim.Native.Nat.{ℕ}
use Rattle.room.specs.FreeSlot.{MoreChangeNothing, highest}
use Rattle.slots.specs.Pools.{free}
use mathlib.Core.List.{[], ◌∷◌}
use mathlib.Core.Option.{Option, none, some}
use mathlib.Core.Path.{◌≡◌, ap}
use native.Mathlib.Omega.{arith}

at : Option ℕ → ℕ
at none = 0
at (some i) = i

pub highest_changes_answers : MoreChangeNothing highest → ⊥
unfolding MoreChangeNothing at
highest_changes_answers law = let z : ◌≡◌ {A = ℕ} 1 0 = ap at (law (free [] ∷ []) (free [] ∷ []) tt) in absurd (omega arith)
