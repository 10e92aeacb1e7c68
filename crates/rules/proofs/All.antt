-- Where every test passes: of a list, and below a bound; and what a loop over the tests comes to.
use Prim.Native.Nat.{◌<◌, ◌≤◌, suc, zero, ℕ}
use Rattle.rules.specs.Tests.{all_below, all_of}
use mathlib.Core.Bool.{Bool, ◌&&◌, false, true}
use mathlib.Core.List.{List, [], ◌∷◌}
use mathlib.Core.Logic.{⊎_elim}
use mathlib.Core.Path.{◌≡◌, refl, sym}
use native.Mathlib.Nat.{eq-or-lt_of_le, le_of_suc-le-suc, not-suc-le-zero}
use native.Mathlib.Omega.{arith}

abbrev pub Each : List Bool → Type 0
Each [] = Unit {0}
Each (b ∷ bs) = (b ≡ true) × Each bs

-- both hold, where their conjunction does
pub and_left : (a b : Bool) → (a && b) ≡ true → a ≡ true
and_left true b e = refl
and_left false b e = e

pub and_right : (a b : Bool) → (a && b) ≡ true → b ≡ true
and_right true b e = e
and_right false b e = let z : ◌≡◌ {A = ℕ} 0 1 = cc in absurd (omega arith)

pub all_each : (bs : List Bool) → all_of bs ≡ true → Each bs
unfolding all_of
all_each [] e = tt
all_each (b ∷ bs) e = (and_left b (all_of bs) e, all_each bs (and_right b (all_of bs) e))

pub each_all : (bs : List Bool) → Each bs → all_of bs ≡ true
unfolding all_of
each_all [] h = refl
each_all (b ∷ bs) h = rw h.0 (each_all bs h.1)

-- a test is false where it cannot pass
pub fails : (b : Bool) → (b ≡ true → ⊥) → b ≡ false
fails true h = absurd (h refl)
fails false h = refl

module _ (p : ℕ → Bool) where
  pub all_at : (n : ℕ) → all_below p n ≡ true → (k : ℕ) → k < n → p k ≡ true
  unfolding all_below
  all_at zero e k l = absurd (not-suc-le-zero l)
  all_at (suc n) e k l =
      ⊎_elim (λ (q : k ≡ n). rw q (and_right (all_below p n) (p n) e))
      (λ (q : k < n). all_at n (and_left (all_below p n) (p n) e) k q)
      (eq-or-lt_of_le (le_of_suc-le-suc l))

  pub all_of_lem : (n : ℕ) → ((k : ℕ) → k < n → p k ≡ true) → all_below p n ≡ true
  unfolding all_below
  all_of_lem zero h = refl
  all_of_lem (suc n) h = rw (all_of_lem n (λ k l. h k (omega arith))) (h n (omega arith))

  pub all_not : (n k : ℕ) → k < n → p k ≡ false → all_below p n ≡ false
  all_not n k l e = fails (all_below p n) (λ t. clash (all_at n t k l))
    where
      clash : p k ≡ true → ⊥
      clash t = let z : ◌≡◌ {A = ℕ} 0 1 = cc in omega arith

  -- the forms that a loop's ends ask for
  pub all_end : (n k : ℕ) → n ≤ k → ((j : ℕ) → j < k → p j ≡ true) → true ≡ all_below p n
  all_end n k l h = sym (all_of_lem n (λ j m. h j (omega arith)))

  pub all_stop : (n k : ℕ) → k < n → p k ≡ false → false ≡ all_below p n
  all_stop n k l e = sym (all_not n k l e)
