-- What a smaller store chooses, spilling off, a larger one chooses too, whether it spills or not; and it is a slot of the smaller.
use Prim.Native.Nat.{◌<◌, ◌≤◌, suc, zero, ℕ}
use Rattle.room.specs.FreeSlot.{MoreChangeNothing, slot_taken}
use Rattle.address.specs.Address.{address_of, pool_of, slot_of}
use Rattle.room.specs.Grown.{NamedAt, Narrow, Slotted, grow, shape}
use Rattle.slots.specs.Pools.{Choice, Pool, Slot, all_taken, choose, find_at, find_slot, free, into, lowest, next, pick, shift_pool, taken, too_large, vacant}
use lib.Dec.{leb}
use lib.ListN.{length}
use mathlib.Core.Bool.{Bool, false, true}
use mathlib.Core.List.{List, [], ◌∷◌}
use mathlib.Core.Option.{IsSome, Option, none, some}
use mathlib.Core.Path.{◌≡◌, ap, refl}
use native.Mathlib.Omega.{arith}

abbrev pub is_full : Choice → Bool
is_full too_large = false
is_full (all_taken k) = true
is_full (into k i) = false

next_some : (o : Option ℕ) → IsSome (next o) → IsSome o
next_some none h = h
next_some (some i) h = tt

pub more_change_nothing : MoreChangeNothing slot_taken
unfolding MoreChangeNothing
more_change_nothing [] more h = absurd h
more_change_nothing (free b ∷ xs) more h = refl
more_change_nothing (taken n b ∷ xs) more h = ap next (more_change_nothing xs more (next_some (lowest xs) h))

pick_grow : (spill b : Bool) (o o' : Option ℕ) (r r' : Choice) → (IsSome o → o' ≡ o) → (is_full r ≡ false → r' ≡ r)
    → is_full (pick false b o r) ≡ false → pick spill b o' r' ≡ pick false b o r
pick_grow spill false o o' r r' f g h = g h
pick_grow spill true (some i) o' r r' f g h = rw (f tt)
pick_grow spill true none o' r r' f g h = cc

shift_full : (r : Choice) → is_full (shift_pool r) ≡ false → is_full r ≡ false
shift_full too_large h = refl
shift_full (all_taken k) h = h
shift_full (into k i) h = refl

-- whether the larger spills does not matter: where it would, the smaller is full
same_pools : (spill : Bool) (ps : List Pool) (n : ℕ) → is_full (choose false ps n) ≡ false → choose spill ps n ≡ choose false ps n
unfolding choose
same_pools spill [] n h = refl
same_pools spill (p ∷ ps) n h =
    pick_grow spill (leb n p.size) _ _ _ _ (λ e. refl) (λ e. ap shift_pool (same_pools spill ps n (shift_full (choose false ps n) e))) h

pub choose_grow : (spill : Bool) (ks : List ℕ) (ps : List Pool) (n : ℕ) → is_full (choose false ps n) ≡ false
    → choose spill (grow ks ps) n ≡ choose false ps n
unfolding grow choose MoreChangeNothing
choose_grow spill [] ps n h = same_pools spill ps n h
choose_grow spill (k ∷ ks) [] n h = refl
choose_grow spill (k ∷ ks) (p ∷ ps) n h =
    pick_grow spill (leb n p.size) _ _ _ _ (more_change_nothing p.slots _)
    (λ e. ap shift_pool (choose_grow spill ks ps n (shift_full (choose false ps n) e))) h

-- a slot that is found vacant is one of the store's
vacant_slot : (xs : List Slot) (i : ℕ) → find_slot xs i ≡ vacant → i < length xs
vacant_slot [] i e = let z : ◌≡◌ {A = ℕ} 0 1 = cc in absurd (omega arith)
vacant_slot (x ∷ xs) zero e = omega arith
vacant_slot (x ∷ xs) (suc i) e = omega (arith, vacant_slot xs i e)

pub vacant_named : (ps : List Pool) (k i : ℕ) → find_at ps k i ≡ vacant → NamedAt (shape ps) k i
unfolding find_at shape
vacant_named [] k i e = let z : ◌≡◌ {A = ℕ} 0 1 = cc in absurd (omega arith)
vacant_named (p ∷ ps) zero i e = vacant_slot p.slots i e
vacant_named (p ∷ ps) (suc k) i e = vacant_named ps k i e

named_pool : (ns : List ℕ) (k i : ℕ) → NamedAt ns k i → k < length ns
named_pool [] k i h = absurd h
named_pool (n ∷ ns) zero i h = omega arith
named_pool (n ∷ ns) (suc k) i h = let g : k < length ns = named_pool ns k i h in omega arith

named_slot : (ns : List ℕ) (k i : ℕ) → Narrow ns → NamedAt ns k i → i < 256
named_slot [] k i w h = absurd h
named_slot (n ∷ ns) zero i w h = omega arith
named_slot (n ∷ ns) (suc k) i w h = named_slot ns k i w.1 h

pub slotted : (ns : List ℕ) (k i : ℕ) → Narrow ns → length ns ≤ 256 → NamedAt ns k i → Slotted ns (address_of k i)
unfolding Slotted
slotted ns k i w l h =
    let hk : k < length ns = named_pool ns k i h in
    let hi : i < 256 = named_slot ns k i w h in
    let p : pool_of (address_of k i) ≡ k = omega arith in
    let s : slot_of (address_of k i) ≡ i = omega arith in
    rw (p, s) h
