-- Requests to a store, what they leave by the calls' own definitions, and which slot each of them may touch.
use Rattle.std.specs.Prelude.{suc, zero, ℕ, Bool, List, [], ◌∷◌, ◌≡◌}
use Rattle.rules.specs.Papers.{after}
use Rattle.address.specs.Address.{pool_of, slot_of}
use Rattle.store.specs.Calls.{add_in, delete_in, modify_in}
use Rattle.slots.specs.Pools.{Pool, Slot}
use Rattle.std.proofs.Math.Option.{Option, none, some}

-- the slot at a place: free or taken, with all its raw bytes
unfoldable pub nth_slot : List Slot → ℕ → Option Slot
nth_slot [] i = none
nth_slot (x ∷ xs) zero = some x
nth_slot (x ∷ xs) (suc i) = nth_slot xs i

unfoldable pub the_slot : List Pool → ℕ → ℕ → Option Slot
the_slot [] k i = none
the_slot (p ∷ ps) zero i = nth_slot p.slots i
the_slot (p ∷ ps) (suc k) i = the_slot ps k i

-- a place is not the one that an address names
abbrev pub Elsewhere : ℕ → ℕ → ℕ → Type 0
Elsewhere k i a = (k ≡ pool_of a) × (i ≡ slot_of a) → ⊥

-- an addition, a deletion, and a modify with the bytes that are written through it
pub data StoreRequest : Type 0 where
  adds : List ℕ → StoreRequest
  deletes : ℕ → StoreRequest
  modifies : ℕ → List ℕ → StoreRequest

-- what a request leaves: where it is refused, what was there
unfoldable pub step : Bool → List Pool → StoreRequest → List Pool
step spill ps (adds d) = after (add_in spill ps d) ps (λ qs. qs)
step spill ps (deletes a) = after (delete_in ps a) ps (λ qs. qs)
step spill ps (modifies a d) = after (modify_in ps a d) ps (λ qs. qs)

unfoldable pub run : Bool → List Pool → List StoreRequest → List Pool
run spill ps [] = ps
run spill ps (r ∷ rs) = run spill (step spill ps r) rs

-- no request of the list deletes or modifies the slot that an address names
abbrev pub Spares : ℕ → StoreRequest → Type 0
Spares a (adds d) = Unit {0}
Spares a (deletes b) = Elsewhere (pool_of a) (slot_of a) b
Spares a (modifies b d) = Elsewhere (pool_of a) (slot_of a) b

abbrev pub AllSpare : ℕ → List StoreRequest → Type 0
AllSpare a [] = Unit {0}
AllSpare a (r ∷ rs) = Spares a r × AllSpare a rs
