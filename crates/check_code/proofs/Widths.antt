-- Words fed to the code, of any width: what was folded goes into the next word, and a fold keeps the code where it does at each bit.
use Prim.Native.Nat.{◌<◌, ◌^◌, ℕ}
use Rattle.check_code.proofs.Feeding.{Linear₂}
use Rattle.check_code.proofs.Linear.{Linear, agree, agree_at}
use Rattle.rules.specs.Tests.{all_below}
use lib.Bits.{bit_xor, xor_lt, xor_zero_l, xor_zero_r}
use mathlib.Core.Bool.{true}
use mathlib.Core.Path.{◌∙◌, ◌≡◌, ap, ap₂, sym}
use native.Mathlib.Omega.{arith}

-- what feeds a word to a code, and the same of any code
module _ (fed any : ℕ → ℕ → ℕ) (linear : Linear₂ any) (below : (c w : ℕ) → c < 65536 → (fed c w ≡ any c w) × (fed c w < 65536)) where
  fed_linear : (c d w v : ℕ) → c < 65536 → d < 65536 → fed (bit_xor c d) (bit_xor w v) ≡ bit_xor (fed c w) (fed d v)
  fed_linear c d w v hc hd =
      (below (bit_xor c d) (bit_xor w v) (xor_lt 16 c d hc hd)).0 ∙ linear c d w v ∙ sym (ap₂ bit_xor (below c w hc).0 (below d v hd).0)

  -- what was folded to f goes into the next word v
  pub into : (w f v : ℕ) → fed 0 f ≡ fed (fed 0 w) 0 → fed 0 (bit_xor f v) ≡ fed (fed 0 w) v
  into w f v e =
      fed_linear 0 0 f v (omega arith) (omega arith) ∙ ap (λ (x : ℕ). bit_xor x (fed 0 v)) e
      ∙ sym (fed_linear (fed 0 w) 0 0 v (below 0 w (omega arith)).1 (omega arith))
      ∙ ap₂ fed (xor_zero_r (fed 0 w)) (xor_zero_l v)

  -- the start goes into the first word v, as s
  pub start : (c s v : ℕ) → c < 65536 → fed 0 s ≡ fed c 0 → fed 0 (bit_xor s v) ≡ fed c v
  start c s v hc e =
      fed_linear 0 0 s v (omega arith) (omega arith) ∙ ap (λ (x : ℕ). bit_xor x (fed 0 v)) e
      ∙ sym (fed_linear c 0 0 v hc (omega arith))
      ∙ ap₂ fed (xor_zero_r c) (xor_zero_l v)

  module _ (fold : ℕ → ℕ) (lf : Linear fold) where
    abbrev pub folded : ℕ → ℕ
    folded w = any 0 (fold w)

    abbrev pub fed_on : ℕ → ℕ
    fed_on w = any (any 0 w) 0

    folded_linear : Linear folded
    folded_linear a b = ap (any 0) (lf a b) ∙ linear 0 0 (fold a) (fold b)

    fed_on_linear : Linear fed_on
    fed_on_linear a b = ap (λ (x : ℕ). any x 0) (linear 0 0 a b) ∙ linear (any 0 a) (any 0 b) 0 0

    -- of words of k bits
    pub keeps : (k : ℕ) → folded 0 ≡ fed_on 0 → all_below (agree_at folded fed_on) k ≡ true → (w : ℕ) → w < 2 ^ k
        → fed 0 (fold w) ≡ fed (fed 0 w) 0
    keeps k z t w h =
        let p = below 0 w (omega arith) in
        (below 0 (fold w) (omega arith)).0 ∙ agree folded fed_on folded_linear fed_on_linear z k t w h
        ∙ sym ((below (fed 0 w) 0 p.1).0 ∙ ap (λ (x : ℕ). any x 0) p.0)
