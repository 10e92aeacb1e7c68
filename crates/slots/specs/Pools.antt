-- The store as subpools of slots, and the two searches of it: find an address, choose a slot.
use Rattle.std.specs.Prelude.{suc, zero, ℕ, leb, drop, length, Bool, false, true, List, [], ◌++◌, ◌∷◌}
use Rattle.address.specs.Address.{pool_of, slot_of}
use Rattle.std.proofs.Math.Option.{Option, none, some}

-- A slot: free, or taken by a packet of a length. It keeps all its raw bytes, as many as the slot size.
pub data Slot : Type 0 where
  free : List ℕ → Slot
  taken : ℕ → List ℕ → Slot

pub record Pool : Type 0 where
  pub size : ℕ
  pub slots : List Slot

-- Find: what an address names
pub data Found : Type 0 where
  no_pool no_slot vacant : Found
  held : ℕ → List ℕ → Found

abbrev pub seen : Slot → Found
seen (free b) = vacant
seen (taken n b) = held n b

abbrev pub find_slot : List Slot → ℕ → Found
find_slot [] i = no_slot
find_slot (x ∷ xs) zero = seen x
find_slot (x ∷ xs) (suc i) = find_slot xs i

unfoldable pub find_at : List Pool → ℕ → ℕ → Found
find_at [] k i = no_pool
find_at (p ∷ ps) zero i = find_slot p.slots i
find_at (p ∷ ps) (suc k) i = find_at ps k i

abbrev pub find : List Pool → ℕ → Found
find ps a = find_at ps (pool_of a) (slot_of a)

-- d at the front of b, which keeps its length where d is no longer than b
unfoldable pub over : List ℕ → List ℕ → List ℕ
over d b = d ++ drop (length d) b

-- Choose: the first subpool whose slots hold n bytes, then the lowest free slot; with spilling, later subpools in turn
pub data Choice : Type 0 where
  too_large : Choice
  all_taken : ℕ → Choice
  into : ℕ → ℕ → Choice

abbrev pub next : Option ℕ → Option ℕ
next none = none
next (some i) = some (suc i)

abbrev pub lowest : List Slot → Option ℕ
lowest [] = none
lowest (free b ∷ xs) = some 0
lowest (taken n b ∷ xs) = next (lowest xs)

abbrev pub shift_pool : Choice → Choice
shift_pool too_large = too_large
shift_pool (all_taken k) = all_taken (suc k)
shift_pool (into k i) = into (suc k) i

-- every slot of this subpool is taken: without spilling it is the one that is named, and else what the later ones say
abbrev pub spill_into : Bool → Choice → Choice
spill_into false r = all_taken 0
spill_into true too_large = all_taken 0
spill_into true (all_taken k) = all_taken k
spill_into true (into k i) = into k i

-- by: does the subpool hold n bytes, its lowest free slot, what the later subpools say
abbrev pub pick : Bool → Bool → Option ℕ → Choice → Choice
pick spill false o r = r
pick spill true (some i) r = into 0 i
pick spill true none r = spill_into spill r

unfoldable pub choose : Bool → List Pool → ℕ → Choice
choose spill [] n = too_large
choose spill (p ∷ ps) n = pick spill (leb n p.size) (lowest p.slots) (shift_pool (choose spill ps n))
