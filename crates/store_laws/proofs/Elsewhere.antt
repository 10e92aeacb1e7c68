-- One slot after an edit of one slot: the same slot where it is another, and else what the edit makes of it.
use Prim.Native.Nat.{suc, zero, ℕ}
use Rattle.rules.specs.Papers.{Paper, after, no, says}
use Rattle.store.proofs.Chosen.{Open}
use Rattle.slots.proofs.Find.{found_apart}
use Rattle.store.proofs.Slots.{Other}
use Rattle.address.specs.Address.{address_of}
use Rattle.store.specs.Calls.{place}
use Rattle.slots.specs.Pools.{Choice, Pool, Slot, all_taken, find_at, find_slot, free, into, seen, taken, too_large, vacant}
use Rattle.store.specs.Edits.{edit_at, edit_slot, fill}
use Rattle.store_laws.specs.Requests.{nth_slot, the_slot}
use lib.ListN.{get_or, length}
use mathlib.Core.List.{List, [], ◌∷◌}
use mathlib.Core.Option.{some}
use mathlib.Core.Path.{◌∙◌, ◌≡◌, ap, refl, sym}
use native.Mathlib.Omega.{arith}

nth_else : (f : Slot → Slot) (xs : List Slot) (i j : ℕ) → (i ≡ j → ⊥) → nth_slot (edit_slot f xs j) i ≡ nth_slot xs i
unfolding nth_slot
nth_else f [] i j o = refl
nth_else f (x ∷ xs) zero zero o = absurd (o refl)
nth_else f (x ∷ xs) zero (suc j) o = refl
nth_else f (x ∷ xs) (suc i) zero o = refl
nth_else f (x ∷ xs) (suc i) (suc j) o = nth_else f xs i j (λ e. o (ap suc e))

pub slot_else : (f : Slot → Slot) (ps : List Pool) (k i m j : ℕ) → Other k i m j → the_slot (edit_at f ps m j) k i ≡ the_slot ps k i
unfolding the_slot edit_at
slot_else f [] k i m j o = refl
slot_else f (p ∷ ps) zero i zero j o = nth_else f p.slots i j (λ e. o (refl, e))
slot_else f (p ∷ ps) zero i (suc m) j o = refl
slot_else f (p ∷ ps) (suc k) i zero j o = refl
slot_else f (p ∷ ps) (suc k) i (suc m) j o = slot_else f ps k i m j (λ e. o (ap suc e.0, e.1))

nth_here : (f : Slot → Slot) (xs : List Slot) (i : ℕ) (x : Slot) → nth_slot xs i ≡ some x → nth_slot (edit_slot f xs i) i ≡ some (f x)
unfolding nth_slot
nth_here f [] i x q = absurd (let z : ◌≡◌ {A = ℕ} 0 1 = cc in omega arith)
nth_here f (y ∷ xs) zero x q = let e : y ≡ x = cc in ap (λ (s : Slot). some (f s)) e
nth_here f (y ∷ xs) (suc i) x q = nth_here f xs i x q

pub slot_here : (f : Slot → Slot) (ps : List Pool) (k i : ℕ) (x : Slot) → the_slot ps k i ≡ some x → the_slot (edit_at f ps k i) k i ≡ some (f x)
unfolding the_slot edit_at
slot_here f [] k i x q = absurd (let z : ◌≡◌ {A = ℕ} 0 1 = cc in omega arith)
slot_here f (p ∷ ps) zero i x q = nth_here f p.slots i x q
slot_here f (p ∷ ps) (suc k) i x q = slot_here f ps k i x q

-- what `find` sees is the slot that is there
nth_seen : (xs : List Slot) (i : ℕ) (x : Slot) → nth_slot xs i ≡ some x → find_slot xs i ≡ seen x
unfolding nth_slot
nth_seen [] i x q = absurd (let z : ◌≡◌ {A = ℕ} 0 1 = cc in omega arith)
nth_seen (y ∷ xs) zero x q = let e : y ≡ x = cc in ap seen e
nth_seen (y ∷ xs) (suc i) x q = nth_seen xs i x q

pub slot_seen : (ps : List Pool) (k i : ℕ) (x : Slot) → the_slot ps k i ≡ some x → find_at ps k i ≡ seen x
unfolding the_slot find_at
slot_seen [] k i x q = absurd (let z : ◌≡◌ {A = ℕ} 0 1 = cc in omega arith)
slot_seen (p ∷ ps) zero i x q = nth_seen p.slots i x q
slot_seen (p ∷ ps) (suc k) i x q = slot_seen ps k i x q

nth_vacant : (xs : List Slot) (i : ℕ) → find_slot xs i ≡ vacant → (b : List ℕ) × (nth_slot xs i ≡ some (free b))
unfolding nth_slot
nth_vacant [] i q = absurd (let z : ◌≡◌ {A = ℕ} 0 1 = cc in omega arith)
nth_vacant (free b ∷ xs) zero q = (b, refl)
nth_vacant (taken n b ∷ xs) zero q = absurd (let z : ◌≡◌ {A = ℕ} 0 1 = cc in omega arith)
nth_vacant (y ∷ xs) (suc i) q = nth_vacant xs i q

pub slot_vacant : (ps : List Pool) (k i : ℕ) → find_at ps k i ≡ vacant → (b : List ℕ) × (the_slot ps k i ≡ some (free b))
unfolding the_slot find_at
slot_vacant [] k i q = absurd (let z : ◌≡◌ {A = ℕ} 0 1 = cc in omega arith)
slot_vacant (p ∷ ps) zero i q = nth_vacant p.slots i q
slot_vacant (p ∷ ps) (suc k) i q = slot_vacant ps k i q

-- a taken slot is not the one that an addition chooses
pub not_chosen : (ps : List Pool) (k i m j n : ℕ) (b : List ℕ) → the_slot ps k i ≡ some (taken n b) → find_at ps m j ≡ vacant → Other k i m j
not_chosen ps k i m j n b h v e = found_apart {z = vacant} tt (slot_seen ps k i (taken n b) h) (rw (e.0, e.1) v)

pub placed_keeps : (ps : List Pool) (d : List ℕ) (x : Choice) → Open ps (length d) x → (k i n : ℕ) (b : List ℕ) → the_slot ps k i ≡ some (taken n b)
    → the_slot (after (place ps d x) ps (λ qs. qs)) k i ≡ some (taken n b)
unfolding place after
placed_keeps ps d too_large w k i n b h = h
placed_keeps ps d (all_taken m) w k i n b h = h
placed_keeps ps d (into m j) w k i n b h = slot_else (fill d) ps k i m j (not_chosen ps k i m j n b h w.0) ∙ h

-- the slot that an answered addition names is the one that it chose
pub named : (ps : List Pool) (d : List ℕ) (x : Choice) (a : ℕ) → says (place ps d x) ≡ no 0 (a ∷ [])
    → (m : ℕ) × (j : ℕ) × (x ≡ into m j) × (a ≡ address_of m j)
unfolding place says
named ps d too_large a q = let z : ◌≡◌ {A = ℕ} 11 0 = ap (λ (p : Paper). p.number) q in absurd (omega arith)
named ps d (all_taken k) a q = let z : ◌≡◌ {A = ℕ} 12 0 = ap (λ (p : Paper). p.number) q in absurd (omega arith)
named ps d (into m j) a q = (m, j, refl, sym (ap (λ (p : Paper). get_or p.values 0 0) q))
