-- The searches of the lists in the words of the model: what `position` answers is the first index at which a test passes.
use Rattle.std.proofs.Common.{◌≡◌, ℕ, ◌+◌, ◌<◌, ◌≤◌, ◌==◌, Bool, true, false, List, length, get_or, take, position, Some, None, nat_le, arith, ap, sym, ◌∙◌, lt-ltb, le-ltb}
use Rattle.std.proofs.Math.Seq.{length-take-le}
use Rattle.std.proofs.lemmas.Bool.Decides.{nat_tests}
use Rattle.std.proofs.lemmas.List.{get_or-take}
use Rattle.std.proofs.lemmas.List.Edits.{get_or-between, length-between}
use Rattle.std.proofs.lemmas.List.Quantifiers.{position-Some}
use Rattle.std.proofs.lemmas.List.Sums.{fails_before_first}
use Rattle.std.specs.List.{between, position_or_len}
use Rattle.layout.specs.Layout.{rows_before, slots_at}
use Rattle.layout.specs.Limits.{store_free}
use Rattle.rules.proofs.First.{first_is, first_none}
use Rattle.rules.specs.Tests.{first_from}
use Rattle.slots.specs.Inside.{fits, free_row, free_slot, has_free}
use Rattle.layout.specs.declared.Setup.{Setup}

-- a list ys of n elements, and q is the test p of them by their places
module _ (q p : ℕ → Bool) (ys : List ℕ) (n : ℕ) (e : length ys ≡ n) (same : (s : ℕ) → s < n → q s ≡ p (get_or ys s 0)) where
  found : (k : ℕ) → Some k ≡ position p ys → (k < n) × (k ≡ first_from q 0 n)
  found k h =
      let f = position-Some p ys k 0 (sym h) in
      let l : k < n = omega arith in
      (l, sym (first_is q n 0 k (omega arith) (omega arith) (λ m u v. same m (omega arith) ∙ f.2 m v) (same k l ∙ f.1)))

  not_found : None ≡ position p ys → n ≡ first_from q 0 n
  not_found h =
      let l : length ys ≤ position_or_len p ys = grind (arith, nat_tests) in
      sym (first_none q n 0 (λ m u v. same m (omega arith) ∙ fails_before_first p ys m 0 (omega arith)) ∙ omega arith)

-- the first subpool whose slots hold len bytes
module _ (su : Setup) (len : ℕ) (few : su.pools ≤ length su.sizes) where
  same_size : (s : ℕ) → s < su.pools → fits su len s ≡ nat_le len (get_or (take su.pools su.sizes) s 0)
  same_size s l = ap (nat_le len) (sym (get_or-take su.pools su.sizes s 0 l))

  pub subpool_found : (k : ℕ) → Some k ≡ position (nat_le len) (take su.pools su.sizes) → (k < su.pools) × (k ≡ first_from (fits su len) 0 su.pools)
  subpool_found = found _ _ _ _ (length-take-le su.pools su.sizes few) same_size

  pub subpool_none : None ≡ position (nat_le len) (take su.pools su.sizes) → su.pools ≡ first_from (fits su len) 0 su.pools
  subpool_none = not_found _ _ _ _ (length-take-le su.pools su.sizes few) same_size

-- the lowest free slot of subpool k, by copies of the subpool's numbers
module _ (su : Setup) (lens : List ℕ) (k base count : ℕ) (b : base ≡ rows_before su k) (c : count ≡ slots_at su k) (l : base + count ≤ length lens)
  where
    part_length : length (between base (base + count) lens) ≡ count
    part_length = omega (arith, length-between lens base (base + count) l)

    same_row : (s : ℕ) → s < count → free_row lens base s ≡ (get_or (between base (base + count) lens) s 0 == store_free)
    same_row s m = ap (λ (n : ℕ). n == store_free) (sym (get_or-between lens base (base + count) s 0 (omega arith)))

    pub slot_found : (s : ℕ) → Some s ≡ position (λ n. n == store_free) (between base (base + count) lens)
        → (s ≡ free_slot su lens k) × (has_free su lens k ≡ true)
    unfolding free_slot
    slot_found s h =
        let f = found _ _ _ _ part_length same_row s h in
        let g : s ≡ free_slot su lens k = rw (← b, ← c) f.1 in
        (g, rw (← g, ← c) (lt-ltb _ _ f.0))

    pub slot_none : None ≡ position (λ n. n == store_free) (between base (base + count) lens) → has_free su lens k ≡ false
    unfolding free_slot
    slot_none h =
        let g : count ≡ free_slot su lens k = rw (← b, ← c) (not_found _ _ _ _ part_length same_row h) in
        rw (← g, ← c) (le-ltb count count (omega arith))
