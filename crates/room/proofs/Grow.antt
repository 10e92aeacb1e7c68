-- A larger store is a smaller one with fresh slots behind each subpool; to find and to edit a slot of the smaller commutes with that.
use Prim.Native.Nat.{◌<◌, suc, zero, ℕ}
use Rattle.address.specs.Address.{pool_of, slot_of}
use Rattle.room.specs.Grown.{NamedAt, Slotted, grow, shape}
use Rattle.slots.specs.Pools.{Pool, Slot, find, find_at, find_slot}
use Rattle.store.specs.Edits.{edit, edit_at, edit_slot}
use Rattle.store_laws.proofs.Fitting.{slots_many}
use lib.ListN.{length}
use mathlib.Core.List.{List, [], ◌++◌, ◌∷◌}
use mathlib.Core.Path.{◌≡◌, ap, refl}
use native.Mathlib.Nat.{le_of_suc-le-suc, not-suc-le-zero}

find_slot_append : (xs ys : List Slot) (i : ℕ) → i < length xs → find_slot (xs ++ ys) i ≡ find_slot xs i
find_slot_append [] ys i h = absurd (not-suc-le-zero h)
find_slot_append (x ∷ xs) ys zero h = refl
find_slot_append (x ∷ xs) ys (suc i) h = find_slot_append xs ys i (le_of_suc-le-suc h)

find_at_grow : (ks : List ℕ) (ps : List Pool) (k i : ℕ) → NamedAt (shape ps) k i → find_at (grow ks ps) k i ≡ find_at ps k i
unfolding grow shape find_at
find_at_grow [] ps k i h = refl
find_at_grow (n ∷ ks) [] k i h = refl
find_at_grow (n ∷ ks) (p ∷ ps) zero i h = find_slot_append p.slots _ i h
find_at_grow (n ∷ ks) (p ∷ ps) (suc k) i h = find_at_grow ks ps k i h

pub find_grow : (ks : List ℕ) (ps : List Pool) (a : ℕ) → Slotted (shape ps) a → find (grow ks ps) a ≡ find ps a
unfolding Slotted
find_grow ks ps a h = find_at_grow ks ps (pool_of a) (slot_of a) h

edit_slot_append : (f : Slot → Slot) (xs ys : List Slot) (i : ℕ) → i < length xs → edit_slot f (xs ++ ys) i ≡ edit_slot f xs i ++ ys
edit_slot_append f [] ys i h = absurd (not-suc-le-zero h)
edit_slot_append f (x ∷ xs) ys zero h = refl
edit_slot_append f (x ∷ xs) ys (suc i) h = ap (x ∷◌) (edit_slot_append f xs ys i (le_of_suc-le-suc h))

pub edit_at_grow : (f : Slot → Slot) (ks : List ℕ) (ps : List Pool) (k i : ℕ) → NamedAt (shape ps) k i
    → edit_at f (grow ks ps) k i ≡ grow ks (edit_at f ps k i)
unfolding grow shape edit_at
edit_at_grow f [] ps k i h = refl
edit_at_grow f (n ∷ ks) [] k i h = refl
edit_at_grow f (n ∷ ks) (p ∷ ps) zero i h = rw (edit_slot_append f p.slots _ i h)
edit_at_grow f (n ∷ ks) (p ∷ ps) (suc k) i h = rw (edit_at_grow f ks ps k i h)

pub edit_grow : (f : Slot → Slot) (ks : List ℕ) (ps : List Pool) (a : ℕ) → Slotted (shape ps) a → edit f (grow ks ps) a ≡ grow ks (edit f ps a)
unfolding Slotted
edit_grow f ks ps a h = edit_at_grow f ks ps (pool_of a) (slot_of a) h

pub shape_edit_at : (f : Slot → Slot) (ps : List Pool) (k i : ℕ) → shape (edit_at f ps k i) ≡ shape ps
unfolding shape edit_at
shape_edit_at f [] k i = refl
shape_edit_at f (p ∷ ps) zero i = ap (◌∷ shape ps) (slots_many f p.slots i)
shape_edit_at f (p ∷ ps) (suc k) i = ap (length p.slots ∷◌) (shape_edit_at f ps k i)

pub shape_edit : (f : Slot → Slot) (ps : List Pool) (a : ℕ) → shape (edit f ps a) ≡ shape ps
shape_edit f ps a = shape_edit_at f ps (pool_of a) (slot_of a)
