-- What demand 3 needs of the slot that an addition takes: where one is free, more slots behind those there do not change which is taken.
use Rattle.std.specs.Prelude.{suc, ℕ, List, [], ◌++◌, ◌∷◌, ◌≡◌}
use Rattle.std.proofs.Math.Option.{IsSome, Option, none, some}
use Rattle.slots.specs.Pools.{Slot, free, lowest, taken}

-- by a rule for the slot that is taken, of those of a subpool
unfoldable pub MoreChangeNothing : (List Slot → Option ℕ) → Type 0
MoreChangeNothing rule = (xs more : List Slot) → IsSome (rule xs) → rule (xs ++ more) ≡ rule xs

-- the highest free slot: a rule by which they would
abbrev pub later : Option ℕ → Slot → Option ℕ
later (some i) x = some (suc i)
later none (free b) = some 0
later none (taken n b) = none

abbrev pub highest : List Slot → Option ℕ
highest [] = none
highest (x ∷ xs) = later (highest xs) x

-- the rule of `add`: the lowest free slot
abbrev pub slot_taken : List Slot → Option ℕ
slot_taken xs = lowest xs
