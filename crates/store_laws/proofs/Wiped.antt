-- One slot wiped: what an address finds after it, there and elsewhere. A deletion leaves its slot wiped, whether or not a packet was there.
use Prim.Native.Nat.{suc, zero, ℕ}
use Rattle.rules.specs.Papers.{after, done}
use Rattle.address.specs.Address.{pool_of, slot_of}
use Rattle.store.proofs.Slots.{Other}
use Rattle.store.specs.Calls.{delete_in}
use Rattle.lookup.specs.Calls.{if_held, if_named}
use Rattle.slots.specs.Pools.{Found, Pool, Slot, find, find_at, find_slot, free, held, no_pool, no_slot, taken, vacant}
use Rattle.store.specs.Edits.{edit, edit_at, edit_slot, wipe}
use mathlib.Core.List.{List, [], ◌∷◌}
use mathlib.Core.Path.{◌≡◌, ap, refl, subst, sym}

-- the address check fails
abbrev pub Missing : Found → Type 0
Missing no_pool = Unit {0}
Missing no_slot = Unit {0}
Missing vacant = Unit {0}
Missing (held n b) = ⊥

-- what is found elsewhere, after any edit of one slot
find_slot_else : (f : Slot → Slot) (xs : List Slot) (i j : ℕ) → (i ≡ j → ⊥) → find_slot (edit_slot f xs j) i ≡ find_slot xs i
find_slot_else f [] i j o = refl
find_slot_else f (x ∷ xs) zero zero o = absurd (o refl)
find_slot_else f (x ∷ xs) zero (suc j) o = refl
find_slot_else f (x ∷ xs) (suc i) zero o = refl
find_slot_else f (x ∷ xs) (suc i) (suc j) o = find_slot_else f xs i j (λ e. o (ap suc e))

pub find_else : (f : Slot → Slot) (ps : List Pool) (k i m j : ℕ) → Other m j k i → find_at (edit_at f ps m j) k i ≡ find_at ps k i
unfolding find_at edit_at
find_else f [] k i m j o = refl
find_else f (p ∷ ps) zero i zero j o = find_slot_else f p.slots i j (λ e. o (refl, sym e))
find_else f (p ∷ ps) zero i (suc m) j o = refl
find_else f (p ∷ ps) (suc k) i zero j o = refl
find_else f (p ∷ ps) (suc k) i (suc m) j o = find_else f ps k i m j (λ e. o (ap suc e.0, e.1))

-- no packet is found where it was wiped
slot_wiped : (xs : List Slot) (i : ℕ) → Missing (find_slot (edit_slot wipe xs i) i)
slot_wiped [] i = tt
slot_wiped (free b ∷ xs) zero = tt
slot_wiped (taken n b ∷ xs) zero = tt
slot_wiped (x ∷ xs) (suc i) = slot_wiped xs i

pub find_wiped : (ps : List Pool) (k i : ℕ) → Missing (find_at (edit_at wipe ps k i) k i)
unfolding find_at edit_at
find_wiped [] k i = tt
find_wiped (p ∷ ps) zero i = slot_wiped p.slots i
find_wiped (p ∷ ps) (suc k) i = find_wiped ps k i

-- where no packet is, wiping changes nothing
slot_same : (xs : List Slot) (i : ℕ) → Missing (find_slot xs i) → edit_slot wipe xs i ≡ xs
slot_same [] i h = refl
slot_same (free b ∷ xs) zero h = refl
slot_same (taken n b ∷ xs) zero h = absurd h
slot_same (x ∷ xs) (suc i) h = ap (λ (ys : List Slot). x ∷ ys) (slot_same xs i h)

at_same : (ps : List Pool) (k i : ℕ) → Missing (find_at ps k i) → edit_at wipe ps k i ≡ ps
unfolding find_at edit_at
at_same [] k i h = refl
at_same (p ∷ ps) zero i h = ap (λ (xs : List Slot). record { size = p.size; slots = xs } ∷ ps) (slot_same p.slots i h)
at_same (p ∷ ps) (suc k) i h = ap (λ (qs : List Pool). p ∷ qs) (at_same ps k i h)

pub wipe_same : (ps : List Pool) (a : ℕ) → Missing (find ps a) → ps ≡ edit wipe ps a
wipe_same ps a h = sym (at_same ps (pool_of a) (slot_of a) h)

-- so what a deletion leaves is the slot wiped
pub deleted_is : (ps : List Pool) (a : ℕ) → after (delete_in ps a) ps (λ qs. qs) ≡ edit wipe ps a
unfolding delete_in after if_held if_named
deleted_is ps a = go (find ps a) refl
  where
    none : (x : Found) → find ps a ≡ x → Missing x → ps ≡ edit wipe ps a
    none x q h = wipe_same ps a (subst Missing (sym q) h)

    go : (x : Found) → find ps a ≡ x → after (if_held a x (λ n b. done [] (edit wipe ps a))) ps (λ qs. qs) ≡ edit wipe ps a
    go no_pool q = none no_pool q tt
    go no_slot q = none no_slot q tt
    go vacant q = none vacant q tt
    go (held n b) q = refl
