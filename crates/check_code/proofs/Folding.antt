-- The folds of four bytes and of eight, as the code has them, and why they keep the code: shifts by as many bits are one function of the word,
-- which antt computes at each bit.
use Prim.Native.Nat.{◌%◌, ◌*◌, ◌/◌, ◌<◌, ◌^◌, ℕ}
use Rattle.check_code.proofs.Feeding.{below4, below8, feed_any, feed_any4, feed_any8, halves, linear4, linear8, shift_any}
use Rattle.check_code.proofs.Linear.{Linear, after, agree_at, both, down, low, same, up}
use Rattle.check_code.proofs.Widths.{into, keeps, start}
use Rattle.check_code.specs.CheckCode.{feed, shift}
use Rattle.check_code.specs.Inside.{feed4, feed8}
use Rattle.rules.specs.Tests.{all_below}
use Rattle.std.specs.Int.{to_be_bytes, w32}
use lib.Bits.{bit_xor}
use lib.ListN.{get_or}
use mathlib.Core.List.{List}
use mathlib.Core.Bool.{true}
use mathlib.Core.Path.{◌∙◌, ◌≡◌, refl, sym}
use native.Mathlib.Omega.{arith}

-- a word of u times 32 bits
abbrev pub quotient : ℕ → ℕ → ℕ
quotient u w = bit_xor (bit_xor (bit_xor w (w / 2 ^ (8 * u))) (bit_xor w (w / 2 ^ (8 * u)) / 2 ^ (16 * u))) (w / 2 ^ (22 * u))

abbrev pub spread : ℕ → ℕ → ℕ
spread u q = bit_xor (bit_xor q (q * 2 ^ (10 * u) % 2 ^ (32 * u))) (q * 2 ^ (24 * u) % 2 ^ (32 * u))

abbrev pub fold_of : ℕ → ℕ → ℕ
fold_of u w = spread u (quotient u w)

linear_sum : (u : ℕ) → Linear (λ (w : ℕ). bit_xor w (w / 2 ^ (8 * u)))
linear_sum u = both (λ (w : ℕ). w) (λ (w : ℕ). w / 2 ^ (8 * u)) same (down (8 * u))

linear_quotient : (u : ℕ) → Linear (quotient u)
linear_quotient u =
    both (λ (w : ℕ). bit_xor (bit_xor w (w / 2 ^ (8 * u))) (bit_xor w (w / 2 ^ (8 * u)) / 2 ^ (16 * u))) (λ (w : ℕ). w / 2 ^ (22 * u))
    (both (λ (w : ℕ). bit_xor w (w / 2 ^ (8 * u))) (λ (w : ℕ). bit_xor w (w / 2 ^ (8 * u)) / 2 ^ (16 * u)) (linear_sum u)
    (after (λ (x : ℕ). x / 2 ^ (16 * u)) (λ (w : ℕ). bit_xor w (w / 2 ^ (8 * u))) (down (16 * u)) (linear_sum u)))
    (down (22 * u))

linear_part : (i j : ℕ) → Linear (λ (q : ℕ). q * 2 ^ j % 2 ^ i)
linear_part i j = after (λ (x : ℕ). x % 2 ^ i) (λ (x : ℕ). x * 2 ^ j) (low i) (up j)

linear_spread : (u : ℕ) → Linear (spread u)
linear_spread u =
    both (λ (q : ℕ). bit_xor q (q * 2 ^ (10 * u) % 2 ^ (32 * u))) (λ (q : ℕ). q * 2 ^ (24 * u) % 2 ^ (32 * u))
    (both (λ (q : ℕ). q) (λ (q : ℕ). q * 2 ^ (10 * u) % 2 ^ (32 * u)) same (linear_part (32 * u) (10 * u)))
    (linear_part (32 * u) (24 * u))

linear_fold : (u : ℕ) → Linear (fold_of u)
linear_fold u = after (spread u) (quotient u) (linear_spread u) (linear_quotient u)

none8 : feed_any8 0 (fold_of 2 0) ≡ feed_any8 (feed_any8 0 0) 0
unfolding feed_any8 feed_any4 feed_any shift_any
none8 = refl

bits8 : all_below (agree_at (λ (w : ℕ). feed_any8 0 (fold_of 2 w)) (λ (w : ℕ). feed_any8 (feed_any8 0 w) 0)) 64 ≡ true
unfolding all_below agree_at feed_any8 feed_any4 feed_any shift_any
bits8 = refl

pub fold8_keeps : (w : ℕ) → w < 2 ^ 64 → feed8 0 (fold_of 2 w) ≡ feed8 (feed8 0 w) 0
fold8_keeps w h = keeps feed8 feed_any8 linear8 below8 (fold_of 2) (linear_fold 2) 64 none8 bits8 w h

none4 : feed_any4 0 (fold_of 1 0) ≡ feed_any4 (feed_any4 0 0) 0
unfolding feed_any4 feed_any shift_any
none4 = refl

bits4 : all_below (agree_at (λ (w : ℕ). feed_any4 0 (fold_of 1 w)) (λ (w : ℕ). feed_any4 (feed_any4 0 w) 0)) 32 ≡ true
unfolding all_below agree_at feed_any4 feed_any shift_any
bits4 = refl

pub fold4_keeps : (w : ℕ) → w < 2 ^ 32 → feed4 0 (fold_of 1 w) ≡ feed4 (feed4 0 w) 0
fold4_keeps w h = keeps feed4 feed_any4 linear4 below4 (fold_of 1) (linear_fold 1) 32 none4 bits4 w h

pub into8 : (w f v : ℕ) → feed8 0 f ≡ feed8 (feed8 0 w) 0 → feed8 0 (bit_xor f v) ≡ feed8 (feed8 0 w) v
into8 w f v e = into feed8 feed_any8 linear8 below8 w f v e

first8 : feed8 0 0xFFFF000000000000 ≡ feed8 0xFFFF 0
unfolding feed8 feed shift
first8 = refl

pub start8 : (v : ℕ) → feed8 0 (bit_xor 0xFFFF000000000000 v) ≡ feed8 0xFFFF v
start8 v = start feed8 feed_any8 linear8 below8 0xFFFF 0xFFFF000000000000 v (omega arith) first8

-- the word that is left of eight bytes, once four are folded into four, gives the code of the eight
pub left8 : (w h : ℕ) → feed4 0 h ≡ feed4 (feed4 0 (w / 4294967296)) 0 → feed4 0 (bit_xor h (w % 4294967296)) ≡ feed8 0 w
left8 w h e = into feed4 feed_any4 linear4 below4 (w / 4294967296) h (w % 4294967296) e ∙ sym (halves 0 w)

-- and it does so byte by byte
pub by_bytes : (w h a b c r : ℕ) (bs : List ℕ) → feed4 0 h ≡ feed4 (feed4 0 (w / 4294967296)) 0
    → bs ≡ to_be_bytes w32 (bit_xor h (w % 4294967296)) → a ≡ feed 0 (get_or bs 0 0) → b ≡ feed a (get_or bs 1 0)
    → c ≡ feed b (get_or bs 2 0) → r ≡ feed c (get_or bs 3 0) → r ≡ feed8 0 w
by_bytes w h a b c r bs e eb e₁ e₂ e₃ e₄ = rw (e₄, e₃, e₂, e₁, eb) (unfold feed4 in left8 w h e)
