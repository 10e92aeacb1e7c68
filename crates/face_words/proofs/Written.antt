-- The record's words, as the stores leave them.
use Prim.Native.Nat.{◌≤◌, ℕ}
use Rattle.face_words.specs.Inside.{written_if}
use Rattle.lookup.specs.Refusals.{bit}
use borrow.Author.Tests.{eq-eqb, ne_eqb}
use lib.ListN.{drop, length, set}
use mathlib.Core.Bool.{Bool, false, true}
use mathlib.Core.List.{List, [], ◌∷◌}
use mathlib.Core.Path.{◌∙◌, ◌≡◌, ap, refl}
use mir.Val.{bool_byte}
use native.Mathlib.Omega.{arith}

pub written : (n : ℕ) (x new old : List ℕ) → n ≡ 0 → x ≡ new → x ≡ written_if n new old
unfolding written_if
written n x new old e q = rw (eq-eqb n 0 e) q

pub unwritten : (n : ℕ) (new old : List ℕ) → (n ≡ 0 → ⊥) → old ≡ written_if n new old
unfolding written_if
unwritten n new old e = rw (ne_eqb n 0 e)

-- the mark over the count, as a reset writes them
pub reset_written_lem : (n k : ℕ) (ws ws₁ ws₂ : List ℕ) → ws₁ ≡ set ws 0 k → ws₂ ≡ written_if n (set ws₁ 5 (bit false)) ws₁
    → ws₂ ≡ written_if n (set (set ws 0 k) 5 (bit false)) (set ws 0 k)
reset_written_lem n k ws ws₁ ws₂ e f = f ∙ ap (λ x. written_if n (set x 5 (bit false)) x) e

pub bit_is : (b : Bool) → bool_byte b ≡ bit b
bit_is true = refl
bit_is false = refl

pub six : (ws : List ℕ) (a b d e f g : ℕ) → 6 ≤ length ws
    → set (set (set (set (set (set ws 0 a) 1 b) 2 d) 3 e) 4 f) 5 g ≡ a ∷ b ∷ d ∷ e ∷ f ∷ g ∷ drop 6 ws
six [] a b d e f g l = absurd (omega arith)
six (p ∷ []) a b d e f g l = absurd (omega arith)
six (p ∷ q ∷ []) a b d e f g l = absurd (omega arith)
six (p ∷ q ∷ r ∷ []) a b d e f g l = absurd (omega arith)
six (p ∷ q ∷ r ∷ s ∷ []) a b d e f g l = absurd (omega arith)
six (p ∷ q ∷ r ∷ s ∷ t ∷ []) a b d e f g l = absurd (omega arith)
six (p ∷ q ∷ r ∷ s ∷ t ∷ u ∷ ws) a b d e f g l = refl

pub six_are : (ws : List ℕ) {a b d e f g a' b' d' e' f' g' : ℕ} → 6 ≤ length ws → a ≡ a' → b ≡ b' → d ≡ d' → e ≡ e' → f ≡ f' → g ≡ g'
    → set (set (set (set (set (set ws 0 a) 1 b) 2 d) 3 e) 4 f) 5 g ≡ a' ∷ b' ∷ d' ∷ e' ∷ f' ∷ g' ∷ drop 6 ws
six_are ws {a} {b} {d} {e} {f} {g} l p q r s t u = six ws a b d e f g l ∙ cc
