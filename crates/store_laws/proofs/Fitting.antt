-- Subpools that fit the setup: what sound lists stand for, what a fresh start makes, and what every edit of a slot keeps; and lists that
-- stand for such subpools are sound.
use Prim.Native.Nat.{◌+◌, ◌<◌, ◌≤◌, suc, zero, ℕ}
use Rattle.lookup.proofs.Within.{within}
use Rattle.rules.proofs.All.{all_of_lem}
use Rattle.rules.proofs.Each.{length_each}
use Rattle.rules.specs.Papers.{after, done}
use Rattle.layout.proofs.Bounds.{bounds}
use Rattle.slots.proofs.Lists.{over_length, part_length}
use Rattle.store.proofs.Chosen.{Open, choose_open, size_in}
use Rattle.layout.proofs.Layouts.{len_free, len_small}
use Rattle.address.specs.Address.{pool_of, slot_of}
use Rattle.store.specs.Calls.{add_in, delete_in, fresh_pool, fresh_pools, modify_in, place}
use Rattle.lookup.specs.Calls.{if_held, if_named}
use Rattle.layout.specs.Judge.{Sized, Sound, buffers_ok, len_ok, lens_ok, pool_lens_ok, row_ok}
use Rattle.layout.specs.Layout.{rows_before, size_at, slots_at}
use Rattle.layout.specs.Limits.{store_free}
use Rattle.slots.specs.Pools.{Choice, Found, Pool, Slot, all_taken, choose, find, free, held, into, no_pool, no_slot, taken, too_large, vacant}
use Rattle.store.specs.Edits.{edit, edit_at, edit_slot, fill, rewrite, wipe}
use Rattle.slots.specs.View.{Leaves, bytes_at, len_at, marked, pool_in, slot_from, slot_in, view}
use Rattle.rules.specs.Lists.{each}
use Rattle.store_laws.specs.Fits.{PoolFits, PoolsFit, SlotFits, SlotsFit}
use borrow.Author.Tests.{eqb-false, eqb-true}
use lib.Dec.{eqb}
use lib.ListN.{get_or, length, length-replicate, length-take, replicate, take}
use mathlib.Core.Bool.{Bool, false, true}
use mathlib.Core.List.{List, [], ◌∷◌}
use mathlib.Core.Logic.{◌⊎◌, ⊎_elim}
use mathlib.Core.Path.{◌∙◌, ◌≡◌, ap, ap₂, refl, subst, sym}
use native.Mathlib.Nat.{not-suc-le-zero}
use native.Mathlib.Omega.{arith}
use Rattle.layout.specs.declared.Setup.{Setup}

-- an edit that keeps one slot fitting keeps all
slots_fit : (f : Slot → Slot) (z : ℕ) → ((x : Slot) → SlotFits z x → SlotFits z (f x)) → (xs : List Slot) (i : ℕ) → SlotsFit z xs
    → SlotsFit z (edit_slot f xs i)
slots_fit f z h [] i a = a
slots_fit f z h (x ∷ xs) zero a = (h x a.0, a.1)
slots_fit f z h (x ∷ xs) (suc i) a = (a.0, slots_fit f z h xs i a.1)

pub slots_many : (f : Slot → Slot) (xs : List Slot) (i : ℕ) → length (edit_slot f xs i) ≡ length xs
slots_many f [] i = refl
slots_many f (x ∷ xs) zero = refl
slots_many f (x ∷ xs) (suc i) = ap suc (slots_many f xs i)

pub edit_fits : (su : Setup) (f : Slot → Slot) (ps : List Pool) (j k i : ℕ)
    → ((x : Slot) → SlotFits (size_in ps k) x → SlotFits (size_in ps k) (f x)) → PoolsFit su j ps → PoolsFit su j (edit_at f ps k i)
unfolding edit_at size_in
edit_fits su f [] j k i h a = a
edit_fits su f (p ∷ ps) j zero i h a = (
  record {
    size = a.0.size;
    number = slots_many f p.slots i ∙ a.0.number;
    slots = slots_fit f p.size h p.slots i a.0.slots;
  },
  a.1,
)
edit_fits su f (p ∷ ps) j (suc k) i h a = (a.0, edit_fits su f ps (suc j) k i h a.1)

wipe_fits : (z : ℕ) (x : Slot) → SlotFits z x → SlotFits z (wipe x)
wipe_fits z (free b) h = h
wipe_fits z (taken n b) h = length-replicate (length b) 0 ∙ h.0

fill_fits : (z : ℕ) (d : List ℕ) → length d ≤ z → (x : Slot) → SlotFits z x → SlotFits z (fill d x)
fill_fits z d l (free b) h = (over_length d b (omega arith) ∙ h, l)
fill_fits z d l (taken n b) h = h

rewrite_fits : (z : ℕ) (d : List ℕ) (x : Slot) → SlotFits z x → SlotFits z (rewrite d x)
rewrite_fits z d (free b) h = h
rewrite_fits z d (taken n b) h =
    let e = length-take n d in
    (over_length (take n d) b (omega (arith, h.0, h.1)) ∙ h.0, h.1)

-- what each call of the store leaves
module _ (su : Setup) (ps : List Pool) (h : PoolsFit su 0 ps) where
  pub delete_fits : (a : ℕ) → PoolsFit su 0 (after (delete_in ps a) ps (λ qs. qs))
  unfolding delete_in after if_held if_named
  delete_fits a = go (find ps a)
    where
      go : (x : Found) → PoolsFit su 0 (after (if_held a x (λ n b. done [] (edit wipe ps a))) ps (λ qs. qs))
      go no_pool = h
      go no_slot = h
      go vacant = h
      go (held n b) = edit_fits su wipe ps 0 (pool_of a) (slot_of a) (λ x q. wipe_fits _ x q) h

  placed_fits : (d : List ℕ) (x : Choice) → Open ps (length d) x → PoolsFit su 0 (after (place ps d x) ps (λ qs. qs))
  unfolding place after
  placed_fits d too_large o = h
  placed_fits d (all_taken k) o = h
  placed_fits d (into k i) o = edit_fits su (fill d) ps 0 k i (fill_fits _ d o.1) h

  pub add_fits : (spill : Bool) (d : List ℕ) → PoolsFit su 0 (after (add_in spill ps d) ps (λ qs. qs))
  unfolding add_in
  add_fits spill d = placed_fits d (choose spill ps (length d)) (choose_open spill ps (length d))

  pub modify_fits : (a : ℕ) (d : List ℕ) → PoolsFit su 0 (after (modify_in ps a d) ps (λ qs. qs))
  unfolding modify_in after if_held if_named
  modify_fits a d = go (find ps a)
    where
      go : (x : Found) → PoolsFit su 0 (after (if_held a x (λ n b. done (n ∷ []) (edit (rewrite d) ps a))) ps (λ qs. qs))
      go no_pool = h
      go no_slot = h
      go vacant = h
      go (held n b) = edit_fits su (rewrite d) ps 0 (pool_of a) (slot_of a) (rewrite_fits _ d) h

-- subpools that are made one by one
pub each_fits : (su : Setup) (f : ℕ → Pool) (n k : ℕ) → k + n ≡ su.pools → ((t : ℕ) → t < su.pools → PoolFits su t (f t))
    → PoolsFit su k (each f k n)
unfolding each
each_fits su f zero k e h = omega arith
each_fits su f (suc n) k e h = (h k (omega arith), each_fits su f n (suc k) (omega arith) h)

slots_free : (z n : ℕ) (b : List ℕ) → length b ≡ z → SlotsFit z (replicate n (free b))
slots_free z zero b e = tt
slots_free z (suc n) b e = (e, slots_free z n b e)

pub fresh_fits : (su : Setup) → PoolsFit su 0 (fresh_pools su)
unfolding fresh_pools
fresh_fits su =
    each_fits su (fresh_pool su) su.pools 0 (omega arith)
    (λ k l. record {
      size = refl;
      number = length-replicate (slots_at su k) _;
      slots = slots_free (size_at su k) (slots_at su k) _ (length-replicate (size_at su k) 0);
    })

slot_fits : (z w : ℕ) (b : List ℕ) → (w ≡ store_free) ⊎ (w ≤ z) → length b ≡ z → SlotFits z (slot_from w b)
unfolding marked
slot_fits z w b h l = go (eqb w store_free) refl
  where
    go : (t : Bool) → eqb w store_free ≡ t → SlotFits z (marked t w b)
    go true e = l
    go false e = (l, ⊎_elim (λ f. absurd (eqb-false w store_free e f)) (λ m. m) h)

slots_each : (f : ℕ → Slot) (z n i : ℕ) → ((t : ℕ) → t < i + n → SlotFits z (f t)) → SlotsFit z (each f i n)
unfolding each
slots_each f z zero i h = tt
slots_each f z (suc n) i h = (h i (omega arith), slots_each f z n (suc i) (λ t l. h t (omega arith)))

-- what sound lists stand for
pub view_fits : (su : Setup) (st le : List ℕ) → Sound su st le → PoolsFit su 0 (view su st le)
unfolding view len_at bytes_at
view_fits su st le s =
    each_fits su (pool_in su st le) su.pools 0 (omega arith)
    (λ k l. record {
      size = refl;
      number = length_each _ (slots_at su k) 0;
      slots = slots_each _ (size_at su k) (slots_at su k) 0
          (λ i m. let w = within su (length st) le (bounds s) k i l (omega arith) in
          slot_fits (size_at su k) _ _ ((bounds s).rows k i l (omega arith)) (part_length _ (size_at su k) st w.bytes_fit));
    })

from_fits : (z w : ℕ) (b : List ℕ) → SlotFits z (slot_from w b) → len_ok z w ≡ true
unfolding marked
from_fits z w b = go (eqb w store_free) refl
  where
    go : (t : Bool) → eqb w store_free ≡ t → SlotFits z (marked t w b) → len_ok z w ≡ true
    go true e h = len_free z w (eqb-true w store_free e)
    go false e h = len_small z w h.1

slot_of_lem : (f : ℕ → Slot) (z n i j t : ℕ) → i + j ≡ t → j < n → SlotsFit z (each f i n) → SlotFits z (f t)
unfolding each
slot_of_lem f z zero i j t e l h = absurd (not-suc-le-zero l)
slot_of_lem f z (suc n) i zero t e l h = let q : t ≡ i = omega arith in rw q h.0
slot_of_lem f z (suc n) i (suc j) t e l h = slot_of_lem f z n (suc i) j t (omega arith) (omega arith) h.1

pool_of_lem : (su : Setup) (f : ℕ → Pool) (n k j t : ℕ) → k + j ≡ t → j < n → PoolsFit su k (each f k n) → PoolFits su t (f t)
unfolding each
pool_of_lem su f zero k j t e l h = absurd (not-suc-le-zero l)
pool_of_lem su f (suc n) k zero t e l h = let q : t ≡ k = omega arith in rw q h.0
pool_of_lem su f (suc n) k (suc j) t e l h = pool_of_lem su f n (suc k) j t (omega arith) (omega arith) h.1

-- lists that stand for subpools that fit are sound, where setup and buffers are good
pub sound_of : (su : Setup) (st le : List ℕ) (ps : List Pool) (st' le' : List ℕ) → Sized su st le → Leaves su st le ps st' le' → PoolsFit su 0 ps
    → Sound su st' le'
unfolding view len_at lens_ok
sound_of su st le ps st' le' s l f =
    let g : PoolsFit su 0 (view su st' le') = subst (PoolsFit su 0) (sym l.seen) f in
    record {
      setup = s.setup;
      buffers = ap₂ (buffers_ok su) l.same_length l.same_rows ∙ s.buffers;
      lengths =
          all_of_lem (pool_lens_ok su le') su.pools
          (λ k a. all_of_lem (row_ok le' (rows_before su k) (size_at su k)) (slots_at su k)
          (λ i b. from_fits (size_at su k) (get_or le' (rows_before su k + i) 0) (bytes_at su st' k i)
          (slot_of_lem (slot_in su st' le' k) (size_at su k) (slots_at su k) 0 i i (omega arith) b
          (pool_of_lem su (pool_in su st' le') su.pools 0 k k (omega arith) a g).slots)));
    }
