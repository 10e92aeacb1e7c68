-- The first index at which a test passes, and what a loop that searches for it comes to.
use Prim.Native.Nat.{◌+◌, ◌-◌, ◌<◌, ◌≤◌, suc, zero, ℕ}
use Rattle.rules.specs.Tests.{first_from}
use mathlib.Core.Bool.{Bool, cond, false, true}
use mathlib.Core.Logic.{⊎_elim}
use mathlib.Core.Path.{◌∙◌, ◌≡◌, refl, subst, sym}
use native.Mathlib.Nat.{eq-or-lt_of_le}
use native.Mathlib.Omega.{arith}

module _ (p : ℕ → Bool) where
  pub first_is : (n i j : ℕ) → i ≤ j → j < i + n → ((m : ℕ) → i ≤ m → m < j → p m ≡ false) → p j ≡ true → first_from p i n ≡ j
  unfolding first_from
  first_is zero i j a b h e = absurd (omega arith)
  first_is (suc n) i j a b h e =
      ⊎_elim (λ (q : i ≡ j). rw (q, e))
      (λ (q : i < j). rw (h i (omega arith) q) (first_is n (suc i) j q (omega arith) (λ m u v. h m (omega arith) v) e))
      (eq-or-lt_of_le a)

  pub first_none : (n i : ℕ) → ((m : ℕ) → i ≤ m → m < i + n → p m ≡ false) → first_from p i n ≡ i + n
  unfolding first_from
  first_none zero i h = omega arith
  first_none (suc n) i h =
      rw (h i (omega arith) (omega arith)) (first_none n (suc i) (λ m u v. h m (omega arith) (omega arith)) ∙ omega arith)

  pub first_ge : (n i : ℕ) → i ≤ first_from p i n
  unfolding first_from
  first_ge zero i = omega arith
  first_ge (suc n) i = pick (p i) (first_ge n (suc i))
    where
      pick : (b : Bool) → suc i ≤ first_from p (suc i) n → i ≤ cond b i (first_from p (suc i) n)
      pick true h = omega arith
      pick false h = omega arith

  -- what is found passes
  pub first_passes : (n i : ℕ) → first_from p i n < i + n → p (first_from p i n) ≡ true
  unfolding first_from
  first_passes zero i l = absurd (omega arith)
  first_passes (suc n) i l = pick (p i) refl l (first_passes n (suc i))
    where
      pick :
          (b : Bool) → p i ≡ b → cond b i (first_from p (suc i) n) < i + suc n
          → (first_from p (suc i) n < suc i + n → p (first_from p (suc i) n) ≡ true) → p (cond b i (first_from p (suc i) n)) ≡ true
      pick true e q ih = e
      pick false e q ih = ih (omega arith)

  -- what stands before the first fails
  pub first_before : (n i m : ℕ) → i ≤ m → m < first_from p i n → p m ≡ false
  unfolding first_from
  first_before zero i m a l = absurd (omega arith)
  first_before (suc n) i m a l = pick (p i) refl l (first_before n (suc i) m)
    where
      pick : (b : Bool) → p i ≡ b → m < cond b i (first_from p (suc i) n) → (suc i ≤ m → m < first_from p (suc i) n → p m ≡ false) → p m ≡ false
      pick true e q ih = absurd (omega arith)
      pick false e q ih = ⊎_elim (λ (t : i ≡ m). subst (λ (j : ℕ). p j ≡ false) t e) (λ (t : i < m). ih t q) (eq-or-lt_of_le a)

  -- the forms that a loop's ends ask for
  pub first_stop : (n k : ℕ) → k < n → ((j : ℕ) → j < k → p j ≡ false) → p k ≡ true → k ≡ first_from p 0 n
  first_stop n k l h e = sym (first_is n 0 k (omega arith) (omega arith) (λ m u v. h m v) e)

  pub first_end : (n k : ℕ) → n ≤ k → ((j : ℕ) → j < k → p j ≡ false) → n ≡ first_from p 0 n
  first_end n k l h = sym (first_none n 0 (λ m u v. h m (omega arith)) ∙ omega arith)

  pub first_stop_from : (i n k : ℕ) → i ≤ k → k < n → ((j : ℕ) → i ≤ j → j < k → p j ≡ false) → p k ≡ true → k ≡ first_from p i (n - i)
  first_stop_from i n k a l h e = sym (first_is (n - i) i k a (omega arith) h e)

  pub first_end_from : (i n k : ℕ) → i ≤ n → n ≤ k → ((j : ℕ) → i ≤ j → j < k → p j ≡ false) → n ≡ first_from p i (n - i)
  first_end_from i n k a l h = sym (first_none (n - i) i (λ m u v. h m u (omega arith)) ∙ omega arith)

-- what holds of the indices from i up to k, and at k
module _ (P : ℕ → Type 0) where
  pub from_none : (i j : ℕ) → i ≤ j → j < i → P j
  from_none i j a b = absurd (omega arith)

  pub from_more : (i k : ℕ) → ((j : ℕ) → i ≤ j → j < k → P j) → P k → (j : ℕ) → i ≤ j → j < k + 1 → P j
  from_more i k all here j a b =
      ⊎_elim (λ (e : j ≡ k). subst P (sym e) here) (λ (l : j < k). all j a l) (eq-or-lt_of_le {n = j} {m = k} (omega arith))
