-- Functions through which exclusive-or passes. Two of them that agree on the powers of two agree everywhere below.
use Prim.Native.Nat.{◌%◌, ◌*◌, ◌+◌, ◌-◌, ◌/◌, ◌<◌, ◌^◌, ◌≤◌, suc, zero, ℕ}
use Rattle.rules.proofs.All.{all_at}
use Rattle.rules.proofs.Cases.{le_or_lt}
use Rattle.rules.specs.Tests.{all_below}
use borrow.Author.Tests.{eqb-true}
use lib.Bits.{bit_xor, xor_assoc, xor_block, xor_comm, xor_mod, xor_shifted, xor_shr}
use lib.Dec.{eqb}
use lib.Pow.{pow_pos}
use mathlib.Core.Bool.{Bool, true}
use mathlib.Core.Logic.{⊎_elim}
use mathlib.Core.Path.{◌∙◌, ◌≡◌, ap, ap₂, refl, sym}
use native.Mathlib.Nat.{add-zero, one-mul, pow-suc}
use native.Mathlib.Omega.{arith}

abbrev pub Linear : (ℕ → ℕ) → Type 0
Linear f = (a b : ℕ) → f (bit_xor a b) ≡ bit_xor (f a) (f b)

pub swap : (a b c d : ℕ) → bit_xor (bit_xor a b) (bit_xor c d) ≡ bit_xor (bit_xor a c) (bit_xor b d)
swap a b c d =
    xor_assoc a b (bit_xor c d)
    ∙ ap (bit_xor a) (sym (xor_assoc b c d) ∙ ap (λ (x : ℕ). bit_xor x d) (xor_comm b c) ∙ xor_assoc c b d)
    ∙ sym (xor_assoc a c (bit_xor b d))

pub both : (f g : ℕ → ℕ) → Linear f → Linear g → Linear (λ (x : ℕ). bit_xor (f x) (g x))
both f g lf lg a b = ap₂ bit_xor (lf a b) (lg a b) ∙ swap (f a) (f b) (g a) (g b)

pub after : (f g : ℕ → ℕ) → Linear f → Linear g → Linear (λ (x : ℕ). f (g x))
after f g lf lg a b = ap f (lg a b) ∙ lf (g a) (g b)

pub same : Linear (λ (x : ℕ). x)
same a b = refl

pub down : (k : ℕ) → Linear (λ (x : ℕ). x / 2 ^ k)
down k a b = xor_shr a b k

pub low : (k : ℕ) → Linear (λ (x : ℕ). x % 2 ^ k)
low k a b = xor_mod a b k

pub up : (k : ℕ) → Linear (λ (x : ℕ). x * 2 ^ k)
up k a b =
    sym (add-zero (bit_xor a b * 2 ^ k)) ∙ sym (xor_block k a b 0 0 (pow_pos k) (pow_pos k))
    ∙ ap₂ bit_xor (add-zero (a * 2 ^ k)) (add-zero (b * 2 ^ k))

-- one test for each power of two, which antt computes
unfoldable pub agree_at : (ℕ → ℕ) → (ℕ → ℕ) → ℕ → Bool
agree_at f g j = eqb (f (2 ^ j)) (g (2 ^ j))

module _ (f g : ℕ → ℕ) (lf : Linear f) (lg : Linear g) (z : f 0 ≡ g 0) where
  rest : (k n : ℕ) → 2 ^ k ≤ n → n < 2 ^ suc k → n - 2 ^ k < 2 ^ k
  rest k n h l = let e : 2 ^ suc k ≡ 2 ^ k * 2 = pow-suc 2 k in omega arith

  split : (k n : ℕ) → 2 ^ k ≤ n → n < 2 ^ suc k → n ≡ bit_xor (2 ^ k) (n - 2 ^ k)
  split k n h l =
      let s : bit_xor (1 * 2 ^ k) (n - 2 ^ k) ≡ 1 * 2 ^ k + (n - 2 ^ k) = xor_shifted 1 k (n - 2 ^ k) (rest k n h l) in
      let o : 1 * 2 ^ k ≡ 2 ^ k = one-mul (2 ^ k) in
      let b : n ≡ 2 ^ k + (n - 2 ^ k) = omega arith in
      b ∙ sym (ap (λ (x : ℕ). x + (n - 2 ^ k)) o) ∙ sym s ∙ ap (λ (x : ℕ). bit_xor x (n - 2 ^ k)) o

  high : (k n : ℕ) → f (2 ^ k) ≡ g (2 ^ k) → f (n - 2 ^ k) ≡ g (n - 2 ^ k) → 2 ^ k ≤ n → n < 2 ^ suc k → f n ≡ g n
  high k n p r h l =
      ap f (split k n h l) ∙ lf (2 ^ k) (n - 2 ^ k) ∙ ap₂ bit_xor p r ∙ sym (lg (2 ^ k) (n - 2 ^ k))
      ∙ ap g (sym (split k n h l))

  below : (k : ℕ) → ((j : ℕ) → j < k → f (2 ^ j) ≡ g (2 ^ j)) → (n : ℕ) → n < 2 ^ k → f n ≡ g n
  below zero h n l = let e : n ≡ 0 = omega arith in ap f e ∙ z ∙ ap g (sym e)
  below (suc k) h n l =
      ⊎_elim (λ (q : 2 ^ k ≤ n). high k n (h k (omega arith)) (below k (λ j i. h j (omega arith)) (n - 2 ^ k) (rest k n q l)) q l)
      (λ (q : n < 2 ^ k). below k (λ j i. h j (omega arith)) n q)
      (le_or_lt (2 ^ k) n)

  pub agree : (k : ℕ) → all_below (agree_at f g) k ≡ true → (n : ℕ) → n < 2 ^ k → f n ≡ g n
  unfolding agree_at
  agree k t n l = below k (λ j i. eqb-true (f (2 ^ j)) (g (2 ^ j)) (all_at (agree_at f g) k t j i)) n l
