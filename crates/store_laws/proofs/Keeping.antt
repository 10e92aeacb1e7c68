-- The slot of an addition, through any list of requests that spare it.
use Prim.Native.Nat.{ℕ}
use Rattle.rules.specs.Papers.{done}
use Rattle.store.proofs.Chosen.{room_there}
use Rattle.address.specs.Address.{address_of, pool_of, slot_of}
use Rattle.store.specs.Calls.{add_in, place}
use Rattle.lookup.specs.Calls.{if_held, if_named, packet_in}
use Rattle.layout.specs.Judge.{Sound}
use Rattle.slots.specs.Pools.{Choice, Pool, Slot, all_taken, find, free, held, into, over, taken, too_large}
use Rattle.store.specs.Edits.{edit_at, fill}
use Rattle.slots.specs.View.{view}
use Rattle.store_laws.proofs.Elsewhere.{slot_here, slot_vacant}
use Rattle.store_laws.proofs.OthersStay.{add_keeps, delete_others, modify_others}
use Rattle.store_laws.proofs.Reached.{address_back}
use Rattle.store_laws.specs.Requests.{AllSpare, Spares, StoreRequest, adds, deletes, modifies, run, step, the_slot}
use lib.ListN.{drop, length, take}
use lib.Seq.{take_at}
use mathlib.Core.Bool.{Bool}
use mathlib.Core.List.{List, [], ◌∷◌}
use mathlib.Core.Option.{Option, some}
use mathlib.Core.Path.{◌∙◌, ◌≡◌, ap, ap₂, refl, sym}
use native.Mathlib.Omega.{arith}
use Rattle.layout.specs.declared.Setup.{Setup}

-- the slot of the addition, and what keeps it
unfoldable pub Kept : List Pool → ℕ → List ℕ → Type 0
Kept ps a d = (raw : List ℕ) × (the_slot ps (pool_of a) (slot_of a) ≡ some (taken (length d) raw)) × (take (length d) raw ≡ d)

step_keeps : (spill : Bool) (ps : List Pool) (r : StoreRequest) (a n : ℕ) (b : List ℕ) → Spares a r
    → the_slot ps (pool_of a) (slot_of a) ≡ some (taken n b)
    → the_slot (step spill ps r) (pool_of a) (slot_of a) ≡ some (taken n b)
unfolding step
step_keeps spill ps (adds d) a n b o h = add_keeps spill ps d (pool_of a) (slot_of a) n b h
step_keeps spill ps (deletes c) a n b o h = delete_others ps c (pool_of a) (slot_of a) o ∙ h
step_keeps spill ps (modifies c d) a n b o h = modify_others ps c d (pool_of a) (slot_of a) o ∙ h

pub run_keeps : (spill : Bool) (ps : List Pool) (rs : List StoreRequest) (a n : ℕ) (b : List ℕ) → AllSpare a rs
    → the_slot ps (pool_of a) (slot_of a) ≡ some (taken n b)
    → the_slot (run spill ps rs) (pool_of a) (slot_of a) ≡ some (taken n b)
unfolding run
run_keeps spill ps [] a n b o h = h
run_keeps spill ps (r ∷ rs) a n b o h = run_keeps spill (step spill ps r) rs a n b o.1 (step_keeps spill ps r a n b o.0 h)

placed : (ps : List Pool) (d : List ℕ) (x : Choice) (a : ℕ) (qs : List Pool) → place ps d x ≡ done (a ∷ []) qs
    → (k : ℕ) × (i : ℕ) × (x ≡ into k i) × (a ≡ address_of k i) × (qs ≡ edit_at (fill d) ps k i)
unfolding place
placed ps d too_large a qs q = let z : ◌≡◌ {A = ℕ} 0 1 = cc in absurd (omega arith)
placed ps d (all_taken k) a qs q = let z : ◌≡◌ {A = ℕ} 0 1 = cc in absurd (omega arith)
placed ps d (into k i) a qs q = (k, i, refl, cc, cc)

found_there : (qs es : List Pool) (a k i : ℕ) (x : Option Slot) → a ≡ address_of k i → qs ≡ es → pool_of (address_of k i) ≡ k
    → slot_of (address_of k i) ≡ i → the_slot es k i ≡ x → the_slot qs (pool_of a) (slot_of a) ≡ x
found_there qs es a k i x p e m n f = rw (p, e, m, n) f

-- what an answered addition leaves at its address
pub added : (su : Setup) (st le : List ℕ) → Sound su st le → (d : List ℕ) (a : ℕ) (qs : List Pool)
    → add_in su.spill (view su st le) d ≡ done (a ∷ []) qs → Kept qs a d × (address_of (pool_of a) (slot_of a) ≡ a)
unfolding add_in Kept over
added su st le s d a qs q =
    let p = placed (view su st le) d _ a qs q in
    let r = room_there su st le s (length d) p.0 p.1 p.2 in
    let c = address_back su st le s (length d) p.0 p.1 p.2 in
    let v = slot_vacant (view su st le) p.0 p.1 r.vacant_there in
    let h = slot_here (fill d) (view su st le) p.0 p.1 (free v.0) v.1 in (
      (over d v.0, found_there qs _ a p.0 p.1 _ p.3 p.4 c.0 c.1 h, take_at d (drop (length d) v.0) (length d) refl),
      ap₂ address_of (ap pool_of p.3 ∙ c.0) (ap slot_of p.3 ∙ c.1) ∙ sym p.3,
    )

pub held_packet : (ps : List Pool) (a n : ℕ) (b : List ℕ) → find ps a ≡ held n b → packet_in ps a ≡ done (n ∷ []) (take n b)
unfolding packet_in if_held if_named
held_packet ps a n b q = rw q
