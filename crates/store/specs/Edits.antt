-- One slot edited: what an addition, a deletion and what is written through `modify` make of it.
use Rattle.std.specs.Prelude.{suc, zero, ℕ, length, replicate, take, List, [], ◌∷◌}
use Rattle.address.specs.Address.{pool_of, slot_of}
use Rattle.slots.specs.Pools.{Pool, Slot, free, over, taken}

-- one slot changed
abbrev pub edit_slot : (Slot → Slot) → List Slot → ℕ → List Slot
edit_slot f [] i = []
edit_slot f (x ∷ xs) zero = f x ∷ xs
edit_slot f (x ∷ xs) (suc i) = x ∷ edit_slot f xs i

unfoldable pub edit_at : (Slot → Slot) → List Pool → ℕ → ℕ → List Pool
edit_at f [] k i = []
edit_at f (p ∷ ps) zero i = record { size = p.size; slots = edit_slot f p.slots i } ∷ ps
edit_at f (p ∷ ps) (suc k) i = p ∷ edit_at f ps k i

abbrev pub edit : (Slot → Slot) → List Pool → ℕ → List Pool
edit f ps a = edit_at f ps (pool_of a) (slot_of a)

-- a deletion zeroes the whole slot
abbrev pub wipe : Slot → Slot
wipe (free b) = free b
wipe (taken n b) = free (replicate (length b) 0)

-- an addition puts the packet at the front of a free slot
abbrev pub fill : List ℕ → Slot → Slot
fill d (free b) = taken (length d) (over d b)
fill d (taken n b) = taken n b

-- what is written through `modify` replaces the packet's bytes, from their start on and no further than they go; where less is written, the
-- rest stays. The packet's length stays, and so does what its slot holds after it
abbrev pub rewrite : List ℕ → Slot → Slot
rewrite d (free b) = free b
rewrite d (taken n b) = taken n (over (take n d) b)
