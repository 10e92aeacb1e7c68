-- Finding an address in the view, by the numbers of the lent lists.
use Prim.Native.Nat.{◌+◌, ◌<◌, ◌≤◌, suc, zero, ℕ}
use Rattle.layout.specs.Layout.{rows_before, slots_at}
use Rattle.layout.specs.Limits.{store_free}
use Rattle.slots.specs.Pools.{Found, Pool, Slot, find_at, find_slot, free, held, no_pool, no_slot, seen, taken, vacant}
use Rattle.slots.specs.View.{bytes_at, len_at, marked, pool_in, slot_from, slot_in, view}
use Rattle.rules.specs.Lists.{each}
use borrow.Author.Tests.{eq-eqb, ne_eqb}
use lib.Dec.{T, T_not, eqb, eqb_refl}
use lib.ListN.{get_or}
use mathlib.Core.Bool.{not}
use mathlib.Core.List.{List}
use mathlib.Core.Path.{◌∙◌, ◌≡◌, ap, refl, subst, sym}
use native.Mathlib.Nat.{not-suc-le-zero}
use native.Mathlib.Omega.{arith}
use Rattle.layout.specs.declared.Setup.{Setup}

-- what is found is not two things
abbrev pub kind : Found → ℕ
kind no_pool = 0
kind no_slot = 1
kind vacant = 2
kind (held n b) = 3

pub found_apart : {x y z : Found} → T (not (eqb (kind y) (kind z))) → x ≡ y → x ≡ z → ⊥
found_apart {x} {y} {z} t e q =
    T_not (eqb (kind y) (kind z)) t (subst (λ (m : ℕ). T (eqb (kind y) m)) (ap kind (sym e ∙ q)) (eqb_refl (kind y)))

pub slot_free : (w : ℕ) (b : List ℕ) → w ≡ store_free → slot_from w b ≡ free b
unfolding marked
slot_free w b e = rw (eq-eqb w store_free e)

pub slot_taken : (w : ℕ) (b : List ℕ) → (w ≡ store_free → ⊥) → slot_from w b ≡ taken w b
unfolding marked
slot_taken w b e = rw (ne_eqb w store_free e)

slots_find : (f : ℕ → Slot) (n i j t : ℕ) → i + j ≡ t → j < n → find_slot (each f i n) j ≡ seen (f t)
unfolding each
slots_find f zero i j t e l = absurd (not-suc-le-zero l)
slots_find f (suc n) i zero t e l = let q : t ≡ i = omega arith in rw q
slots_find f (suc n) i (suc j) t e l = slots_find f n (suc i) j t (omega arith) (omega arith)

slots_out : (f : ℕ → Slot) (n i j : ℕ) → n ≤ j → find_slot (each f i n) j ≡ no_slot
unfolding each
slots_out f zero i j l = refl
slots_out f (suc n) i zero l = absurd (not-suc-le-zero l)
slots_out f (suc n) i (suc j) l = slots_out f n (suc i) j (omega arith)

pools_find : (f : ℕ → Pool) (n k j i t : ℕ) → k + j ≡ t → j < n → find_at (each f k n) j i ≡ find_slot (f t).slots i
unfolding each find_at
pools_find f zero k j i t e l = absurd (not-suc-le-zero l)
pools_find f (suc n) k zero i t e l = let q : t ≡ k = omega arith in rw q
pools_find f (suc n) k (suc j) i t e l = pools_find f n (suc k) j i t (omega arith) (omega arith)

pools_out : (f : ℕ → Pool) (n k j i : ℕ) → n ≤ j → find_at (each f k n) j i ≡ no_pool
unfolding each find_at
pools_out f zero k j i l = refl
pools_out f (suc n) k zero i l = absurd (not-suc-le-zero l)
pools_out f (suc n) k (suc j) i l = pools_out f n (suc k) j i (omega arith)

module _ (su : Setup) (st le : List ℕ) (k i : ℕ) where
  pub find_no_pool : su.pools ≤ k → find_at (view su st le) k i ≡ no_pool
  unfolding view
  find_no_pool l = pools_out (pool_in su st le) su.pools 0 k i l

  pub find_no_slot : k < su.pools → slots_at su k ≤ i → find_at (view su st le) k i ≡ no_slot
  unfolding view
  find_no_slot l m = pools_find (pool_in su st le) su.pools 0 k i k (omega arith) l ∙ slots_out (slot_in su st le k) (slots_at su k) 0 i m

  pub find_here : k < su.pools → i < slots_at su k → find_at (view su st le) k i ≡ seen (slot_in su st le k i)
  unfolding view
  find_here l m =
      pools_find (pool_in su st le) su.pools 0 k i k (omega arith) l
      ∙ slots_find (slot_in su st le k) (slots_at su k) 0 i i (omega arith) m

  pub find_vacant : k < su.pools → i < slots_at su k → get_or le (rows_before su k + i) 0 ≡ store_free → find_at (view su st le) k i ≡ vacant
  unfolding len_at
  find_vacant l m e = find_here l m ∙ ap seen (slot_free _ (bytes_at su st k i) e)

  pub find_held : k < su.pools → i < slots_at su k → (get_or le (rows_before su k + i) 0 ≡ store_free → ⊥)
      → find_at (view su st le) k i ≡ held (get_or le (rows_before su k + i) 0) (bytes_at su st k i)
  unfolding len_at
  find_held l m e = find_here l m ∙ ap seen (slot_taken _ (bytes_at su st k i) e)
