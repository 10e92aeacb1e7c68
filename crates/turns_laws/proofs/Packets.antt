-- No packet of a judged store is longer than its largest slot, and no turn makes one longer.
use Rattle.layout.proofs.Cases.{SlotCase, has_slot, past_pools, past_slots, slot_case}
use Prim.Native.Nat.{◌+◌, ◌-◌, ◌<◌, ◌≤◌, suc, zero, ℕ}
use Rattle.layout.proofs.Bounds.{bounds, setup_rising}
use Rattle.slots.proofs.Find.{find_held, find_no_pool, find_no_slot, find_vacant}
use Rattle.address.specs.Address.{pool_of, slot_of}
use Rattle.layout.specs.Judge.{Sound}
use Rattle.layout.specs.Layout.{rows_before, size_at, slots_at}
use Rattle.layout.specs.Limits.{store_free}
use Rattle.slots.specs.Pools.{Pool, Slot, find, find_at, find_slot, free, taken}
use Rattle.store.specs.Edits.{edit_at, edit_slot, wipe}
use Rattle.slots.specs.View.{bytes_at, view}
use Rattle.turn.specs.Turns.{leave, need, packet_of}
use Rattle.turns_laws.specs.Draining.{Short, largest_slot}
use borrow.Author.Tests.{eqb-false, eqb-true}
use lib.Dec.{eqb}
use lib.ListN.{get_or, length, length-take}
use mathlib.Core.Bool.{Bool, false, true}
use mathlib.Core.List.{List, [], ◌∷◌}
use mathlib.Core.Logic.{⊎_elim}
use mathlib.Core.Path.{◌≡◌, refl}
use native.Mathlib.Omega.{arith}
use Rattle.layout.specs.declared.Setup.{Setup}

wipe_slot : (xs : List Slot) (i j : ℕ) → length (packet_of (find_slot (edit_slot wipe xs j) i)) ≤ length (packet_of (find_slot xs i))
wipe_slot [] i j = omega arith
wipe_slot (free b ∷ xs) zero zero = omega arith
wipe_slot (taken n b ∷ xs) zero zero = omega arith
wipe_slot (x ∷ xs) zero (suc j) = omega arith
wipe_slot (x ∷ xs) (suc i) zero = omega arith
wipe_slot (x ∷ xs) (suc i) (suc j) = wipe_slot xs i j

wipe_at : (ps : List Pool) (k i m j : ℕ) → length (packet_of (find_at (edit_at wipe ps m j) k i)) ≤ length (packet_of (find_at ps k i))
unfolding find_at edit_at
wipe_at [] k i m j = omega arith
wipe_at (p ∷ ps) zero i zero j = wipe_slot p.slots i j
wipe_at (p ∷ ps) zero i (suc m) j = omega arith
wipe_at (p ∷ ps) (suc k) i zero j = omega arith
wipe_at (p ∷ ps) (suc k) i (suc m) j = wipe_at ps k i m j

-- a turn makes no packet longer
pub short_leave : (big : ℕ) (del : Bool) (ps : List Pool) (a : ℕ) → Short big ps → Short big (leave del ps a)
unfolding Short leave
short_leave big true ps a h = λ k i. omega (arith, h k i, wipe_at ps k i (pool_of a) (slot_of a))
short_leave big false ps a h = h

pub short_need : (big : ℕ) (ps : List Pool) (a : ℕ) → Short big ps → need (find ps a) ≤ 21 + big
unfolding Short
short_need big ps a h = omega (arith, h (pool_of a) (slot_of a))

-- in a judged store each packet is within its slot
module _ (su : Setup) (st le : List ℕ) (s : Sound su st le) where
  in_slot : (k i : ℕ) → k < su.pools → i < slots_at su k → length (packet_of (find_at (view su st le) k i)) ≤ size_at su k
  in_slot k i l m = go (eqb (get_or le (rows_before su k + i) 0) store_free) refl
    where
      go : (b : Bool) → eqb (get_or le (rows_before su k + i) 0) store_free ≡ b → length (packet_of (find_at (view su st le) k i)) ≤ size_at su k
      go true e = rw (find_vacant su st le k i l m (eqb-true _ _ e)) (omega arith)
      go false e =
          let n : get_or le (rows_before su k + i) 0 ≡ store_free → ⊥ = eqb-false _ _ e in
          rw (find_held su st le k i l m n)
          (⊎_elim (λ q. absurd (n q)) (λ q. omega (arith, length-take (get_or le (rows_before su k + i) 0) (bytes_at su st k i)))
          ((bounds s).rows k i l m))

  pub sound_short : Short (largest_slot su) (view su st le)
  unfolding Short
  sound_short k i = go (slot_case su k i)
    where
      go : SlotCase su k i → length (packet_of (find_at (view su st le) k i)) ≤ largest_slot su
      go (past_pools l) = rw (find_no_pool su st le k i l) (omega arith)
      go (past_slots l m) = rw (find_no_slot su st le k i l m) (omega arith)
      go (has_slot l m) =
          omega (arith, in_slot k i l m, setup_rising su s.setup k (su.pools - 1) (omega arith) (omega arith))
