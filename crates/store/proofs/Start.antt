-- A fresh start: the lists that the code fills stand for fresh subpools.
use Rattle.std.specs.Prelude.{Ok}
use Prim.Native.Nat.{◌*◌, ◌+◌, ◌-◌, ◌<◌, ◌≤◌, suc, zero, ℕ}
use Rattle.layout.proofs.Bounds.{sized_fits}
use Rattle.layout.proofs.Layouts.{bytes_within, rows_within}
use Rattle.layout.specs.Judge.{Sized, sized}
use Rattle.layout.specs.Layout.{all_bytes, all_rows, bytes_before, rows_before, size_at, slots_at}
use Rattle.layout.specs.Limits.{store_free}
use Rattle.rules.specs.Papers.{after, says}
use Rattle.rules.specs.Tests.{unless}
use Rattle.slots.proofs.Find.{slot_free}
use Rattle.slots.specs.Pools.{Slot, free}
use Rattle.slots.specs.View.{Leaves, bytes_at, len_at, part, put, slot_in, view}
use Rattle.rules.proofs.Each.{each_cong, each_same}
use Rattle.laid.proofs.Laid.{lens_laid, store_laid}
use Rattle.store.proofs.Slots.{front}
use Rattle.store.specs.Calls.{fresh_in, fresh_pools}
use Rattle.store.specs.Promise.{Writes}
use Rattle.store.specs.Refusals.{done_paper}
use lib.ListN.{get_or-append, drop, get_or, get_or-replicate, length, length-append, length-drop, length-replicate, replicate, take}
use lib.Seq.{drop_at}
use mathlib.Core.List.{List, ◌++◌, ◌∷◌}
use mathlib.Core.Path.{◌∙◌, ◌≡◌, ap, refl, sym}
use native.Mathlib.Nat.{le_of_suc-le-suc, mul-le-mul_right, not-suc-le-zero, sub-zero}
use native.Mathlib.Omega.{arith}
use Rattle.layout.specs.declared.Setup.{Setup}

take_repeated : (z n v : ℕ) → z ≤ n → take z (replicate n v) ≡ replicate z v
take_repeated zero n v h = refl
take_repeated (suc z) zero v h = absurd (not-suc-le-zero h)
take_repeated (suc z) (suc n) v h = ap (λ (l : List ℕ). v ∷ l) (take_repeated z n v (le_of_suc-le-suc h))

drop_repeated : (f n v : ℕ) → drop f (replicate n v) ≡ replicate (n - f) v
drop_repeated zero n v = rw sub-zero
drop_repeated (suc f) zero v = let q : 0 - suc f ≡ 0 = omega arith in rw q
drop_repeated (suc f) (suc n) v = let q : suc n - suc f ≡ n - f = omega arith in drop_repeated f n v ∙ ap (λ (m : ℕ). replicate m v) (sym q)

-- a list whose first n are v
module _ (v n : ℕ) (l : List ℕ) where
  filled_at : (i : ℕ) → i < n → get_or (replicate n v ++ l) i 0 ≡ v
  filled_at i h = get_or-append (replicate n v) l 0 i (rw (length-replicate n v) h) ∙ get_or-replicate n i v 0 h

  filled_part : (f z : ℕ) → f + z ≤ n → part f z (replicate n v ++ l) ≡ replicate z v
  unfolding part
  filled_part f z h =
      front f z (replicate n v) l (rw (length-replicate n v) h) ∙ ap (take z) (drop_repeated f n v) ∙ take_repeated z (n - f) v (omega arith)

  filled_past : drop n (replicate n v ++ l) ≡ l
  filled_past = drop_at (replicate n v) l n (length-replicate n v)

filled_length : (v n : ℕ) (l : List ℕ) → n ≤ length l → length (replicate n v ++ drop n l) ≡ length l
filled_length v n l h = simp (length-append, length-replicate, length-drop) (omega arith)

module _ (su : Setup) (st le : List ℕ) where
  fresh_slot : (k i : ℕ) → k < su.pools → i < slots_at su k
      → slot_in su (replicate (all_bytes su) 0 ++ st) (replicate (all_rows su) store_free ++ le) k i ≡ free (replicate (size_at su k) 0)
  unfolding len_at bytes_at
  fresh_slot k i l m =
      let r = rows_within su k su.pools l in
      let b = bytes_within su k su.pools l in
      let d = mul-le-mul_right {m = suc i} {n = slots_at su k} (size_at su k) m in
      slot_free _ _ (filled_at store_free (all_rows su) le (rows_before su k + i) (omega arith))
      ∙ ap free (filled_part 0 (all_bytes su) st (bytes_before su k + i * size_at su k) (size_at su k) (omega arith))

  fresh_view : view su (replicate (all_bytes su) 0 ++ st) (replicate (all_rows su) store_free ++ le) ≡ fresh_pools su
  unfolding view fresh_pools
  fresh_view =
      each_cong _ _ su.pools 0
      (λ k a (l : k < 0 + su.pools). ap (λ (xs : List Slot). record { size = size_at su k; slots = xs })
      (each_same _ _ (slots_at su k) 0 (λ i m. fresh_slot k i (omega arith) (omega arith))))

module _ (su : Setup) (st le : List ℕ) (s : Sized su st le) where
  pub fresh_leaves : (st' le' : List ℕ) → st' ≡ put 0 (all_bytes su) (replicate (all_bytes su) 0) st
      → le' ≡ put 0 (all_rows su) (replicate (all_rows su) store_free) le
      → Leaves su st le (fresh_pools su) st' le'
  unfolding put
  fresh_leaves st' le' p q =
      let f = sized_fits s in
      rw (p, q)
      (record {
        seen = fresh_view su (drop (all_bytes su) st) (drop (all_rows su) le);
        beyond = filled_past 0 (all_bytes su) (drop (all_bytes su) st);
        beyond_lens = filled_past store_free (all_rows su) (drop (all_rows su) le);
        same_length = filled_length 0 (all_bytes su) st f.1;
        same_rows = filled_length store_free (all_rows su) le f.2;
      })

  pub fresh_done : (st' le' : List ℕ) → Leaves su st le (fresh_pools su) st' le' → Writes su st le (fresh_in su st le) (done_paper (Ok tt)) st' le'
  unfolding fresh_in sized unless says after done_paper
  fresh_done st' le' l =
      rw (s.setup, s.buffers)
      (record {
        answer = refl;
        store = store_laid su st le (fresh_pools su) st' le' l;
        lens = lens_laid su st le (fresh_pools su) st' le' l (sized_fits s).2;
      })
