-- Subpools that fit the setup, laid out as the two lent lists, are read back as they were; and what is read from sound lists fits.
use Prim.Native.Nat.{◌*◌, ◌+◌, ◌<◌, ◌≤◌, suc, zero, ℕ}
use Rattle.rules.proofs.All.{all_at, all_each}
use Rattle.store_laws.specs.Fits.{PoolFits, PoolsFit, SlotFits, SlotsFit}
use Rattle.layout.proofs.Bounds.{sized_fits}
use Rattle.slots.proofs.Find.{slot_free, slot_taken}
use Rattle.layout.specs.Judge.{Sized, pool_ok_at, setup_ok}
use Rattle.layout.specs.Layout.{all_bytes, all_rows, bytes_before, rows_before, size_at, slots_at}
use Rattle.layout.specs.Limits.{max_slot_size, store_free}
use Rattle.slots.specs.Pools.{Pool, Slot, free, taken}
use Rattle.slots.specs.View.{Leaves, bytes_at, pool_bytes, len_at, len_of, pool_lens, lens_with, part, pool_in, raw_of, slot_bytes, slot_from, slot_in, slot_lens, store_with, view}
use Rattle.rules.specs.Lists.{each}
use Rattle.layout.specs.declared.Setup.{Setup}
use borrow.Author.Tests.{leb-true}
use lib.ListN.{drop, get_or, length, length-append, length-drop, take}
use lib.Seq.{drop_at, drop-drop, get_or-drop, take_at}
use mathlib.Core.Bool.{true}
use mathlib.Core.List.{List, [], ◌++◌, ◌∷◌, append_assoc}
use mathlib.Core.Path.{◌∙◌, ◌≡◌, ap, ap₂, refl, subst, sym}
use native.Mathlib.Omega.{arith}

pool≡ : {a b : Pool} → a.size ≡ b.size → a.slots ≡ b.slots → a ≡ b
pool≡ p q = λ i. record { size = p i; slots = q i }

-- what lies behind a part
behind : (f n g : ℕ) (l a r : List ℕ) → drop f l ≡ a ++ r → length a ≡ n → f + n ≡ g → drop g l ≡ r
behind f n g l a r e h k = ap (λ (m : ℕ). drop m l) (sym k) ∙ sym (drop-drop n f l) ∙ ap (drop n) e ∙ drop_at a r n h

-- ---- one slot

raw_length : (z : ℕ) (x : Slot) → SlotFits z x → length (raw_of x) ≡ z
raw_length z (free b) h = h
raw_length z (taken n b) h = h.0

slot_back : (z : ℕ) (x : Slot) → SlotFits z x → z < store_free → slot_from (len_of x) (raw_of x) ≡ x
slot_back z (free b) h l = slot_free store_free b refl
slot_back z (taken n b) h l = slot_taken n b (λ e. omega (arith, h.1))

-- ---- the slots of a subpool

module _ (su : Setup) (st le : List ℕ) (k : ℕ) (small : size_at su k < store_free) where
  slots_back : (xs : List Slot) (i : ℕ) (rb rl : List ℕ) → SlotsFit (size_at su k) xs
      → drop (bytes_before su k + i * size_at su k) st ≡ slot_bytes xs ++ rb → drop (rows_before su k + i) le ≡ slot_lens xs ++ rl
      → each (slot_in su st le k) i (length xs) ≡ xs
  unfolding each len_at bytes_at part
  slots_back [] i rb rl h p q = refl
  slots_back (x ∷ xs) i rb rl h p q =
      let z = size_at su k in
      let f = bytes_before su k + i * z in
      let g = rows_before su k + i in
      let n = raw_length z x h.0 in
      let p₁ : drop f st ≡ raw_of x ++ (slot_bytes xs ++ rb) = p ∙ append_assoc (raw_of x) (slot_bytes xs) rb in
      let b : take z (drop f st) ≡ raw_of x = ap (take z) p₁ ∙ take_at (raw_of x) (slot_bytes xs ++ rb) z n in
      let o : g ≡ g + 0 = omega arith in
      let w : get_or le g 0 ≡ len_of x = ap (λ (j : ℕ). get_or le j 0) o ∙ sym (get_or-drop g le 0 0) ∙ ap (λ (l : List ℕ). get_or l 0 0) q in
      ap₂ ◌∷◌ (ap₂ slot_from w b ∙ slot_back z x h.0 small)
      (slots_back xs (suc i) rb rl h.1 (behind f z (bytes_before su k + suc i * z) st (raw_of x) (slot_bytes xs ++ rb) p₁ n (omega arith))
      (behind g 1 (rows_before su k + suc i) le (len_of x ∷ []) (slot_lens xs ++ rl) q refl (omega arith)))

slots_bytes : (z : ℕ) (xs : List Slot) → SlotsFit z xs → length (slot_bytes xs) ≡ length xs * z
slots_bytes z [] h = omega arith
slots_bytes z (x ∷ xs) h = length-append (raw_of x) (slot_bytes xs) ∙ omega (arith, raw_length z x h.0, slots_bytes z xs h.1)

slots_lens : (xs : List Slot) → length (slot_lens xs) ≡ length xs
slots_lens [] = refl
slots_lens (x ∷ xs) = ap suc (slots_lens xs)

-- ---- the subpools

module _ (su : Setup) where
  fit_le : (ps : List Pool) (k : ℕ) → PoolsFit su k ps → k ≤ su.pools
  fit_le [] k h = omega arith
  fit_le (p ∷ ps) k h = let r = fit_le ps (suc k) h.1 in omega arith

  as_setup : (k : ℕ) (p : Pool) → PoolFits su k p → SlotsFit (size_at su k) p.slots
  as_setup k p h = subst (λ (z : ℕ). SlotsFit z p.slots) h.size h.slots

  pool_bytes_lem : (k : ℕ) (p : Pool) → PoolFits su k p → length (slot_bytes p.slots) ≡ slots_at su k * size_at su k
  pool_bytes_lem k p h = slots_bytes (size_at su k) p.slots (as_setup k p h) ∙ ap (λ (n : ℕ). n * size_at su k) h.number

  pool_lens_lem : (k : ℕ) (p : Pool) → PoolFits su k p → length (slot_lens p.slots) ≡ slots_at su k
  pool_lens_lem k p h = slots_lens p.slots ∙ h.number

  bytes_many : (ps : List Pool) (k : ℕ) → PoolsFit su k ps → bytes_before su k + length (pool_bytes ps) ≡ all_bytes su
  unfolding bytes_before pool_bytes
  bytes_many [] k h = let e = ap (bytes_before su) h in omega arith
  bytes_many (p ∷ ps) k h =
      let r = bytes_many ps (suc k) h.1 in
      let a = length-append (slot_bytes p.slots) (pool_bytes ps) in
      omega (arith, pool_bytes_lem k p h.0)

  lens_many : (ps : List Pool) (k : ℕ) → PoolsFit su k ps → rows_before su k + length (pool_lens ps) ≡ all_rows su
  unfolding rows_before pool_lens
  lens_many [] k h = let e = ap (rows_before su) h in omega arith
  lens_many (p ∷ ps) k h =
      let r = lens_many ps (suc k) h.1 in
      let a = length-append (slot_lens p.slots) (pool_lens ps) in
      omega (arith, pool_lens_lem k p h.0)

  small_sizes : setup_ok su ≡ true → (k : ℕ) → k < su.pools → size_at su k < store_free
  unfolding setup_ok
  small_sizes ok k l =
      let h : size_at su k ≤ max_slot_size = leb-true _ _ (all_each _ (all_at (pool_ok_at su) su.pools (all_each _ ok).1.1.0 k l)).1.0 in
      omega arith

  module _ (ok : setup_ok su ≡ true) (st le : List ℕ) where
    pool_back : (p : Pool) (k : ℕ) (rb rl : List ℕ) → k < su.pools → PoolFits su k p
        → drop (bytes_before su k) st ≡ slot_bytes p.slots ++ rb → drop (rows_before su k) le ≡ slot_lens p.slots ++ rl
        → pool_in su st le k ≡ p
    pool_back p k rb rl l h b r =
        let e : bytes_before su k + 0 * size_at su k ≡ bytes_before su k = omega arith in
        let f : rows_before su k + 0 ≡ rows_before su k = omega arith in
        pool≡ (sym h.size)
        (ap (each (slot_in su st le k) 0) (sym h.number)
        ∙ slots_back su st le k (small_sizes ok k l) p.slots 0 rb rl (as_setup k p h) (ap (λ (m : ℕ). drop m st) e ∙ b)
        (ap (λ (m : ℕ). drop m le) f ∙ r))

    pools_back : (ps : List Pool) (k n : ℕ) (rb rl : List ℕ) → k + n ≡ su.pools → PoolsFit su k ps
        → drop (bytes_before su k) st ≡ pool_bytes ps ++ rb → drop (rows_before su k) le ≡ pool_lens ps ++ rl
        → each (pool_in su st le) k n ≡ ps
    unfolding each pool_bytes pool_lens bytes_before rows_before
    pools_back [] k zero rb rl e h b r = refl
    pools_back [] k (suc n) rb rl e h b r = absurd (omega arith)
    pools_back (p ∷ ps) k zero rb rl e h b r = let m = fit_le ps (suc k) h.1 in absurd (omega arith)
    pools_back (p ∷ ps) k (suc n) rb rl e h b r =
        let b₁ = b ∙ append_assoc (slot_bytes p.slots) (pool_bytes ps) rb in
        let r₁ = r ∙ append_assoc (slot_lens p.slots) (pool_lens ps) rl in
        ap₂ ◌∷◌ (pool_back p k _ _ (omega arith) h.0 b₁ r₁)
        (pools_back ps (suc k) n rb rl (omega arith) h.1 (behind _ _ _ st (slot_bytes p.slots) _ b₁ (pool_bytes_lem k p h.0) refl)
        (behind _ _ _ le (slot_lens p.slots) _ r₁ (pool_lens_lem k p h.0) refl))

-- what a public call writes: the lists stand for the subpools, and nothing else moved
module _ (su : Setup) (st le : List ℕ) (ps : List Pool) (s : Sized su st le) (h : PoolsFit su 0 ps) where
  all_bytes_lem : length (pool_bytes ps) ≡ all_bytes su
  unfolding bytes_before
  all_bytes_lem = omega (arith, bytes_many su ps 0 h)

  all_lens : length (pool_lens ps) ≡ all_rows su
  unfolding rows_before
  all_lens = omega (arith, lens_many su ps 0 h)

  seen_laid : view su (store_with su st ps) (lens_with su le ps) ≡ ps
  unfolding view store_with lens_with bytes_before rows_before
  seen_laid = pools_back su s.setup _ _ ps 0 su.pools (drop (all_bytes su) st) (drop (all_rows su) le) (omega arith) h refl refl

  pub leaves_laid : Leaves su st le ps (store_with su st ps) (lens_with su le ps)
  unfolding store_with lens_with
  leaves_laid =
      let f = sized_fits s in
      let m = all_bytes_lem in
      let n = all_lens in
      record {
        seen = seen_laid;
        beyond = drop_at (pool_bytes ps) (drop (all_bytes su) st) (all_bytes su) m;
        beyond_lens = drop_at (pool_lens ps) (drop (all_rows su) le) (all_rows su) n;
        same_length = simp (length-append, length-drop) (omega (arith, f.1));
        same_rows = simp (length-append, length-drop) (omega (arith, f.2));
      }
