-- What the table rests on: a number below half the range goes through a shift unchanged but for moving up, so a low byte does through eight.
use Prim.Native.Nat.{◌%◌, ◌*◌, ◌+◌, ◌/◌, ◌<◌, ◌^◌, ◌≤◌, suc, zero, ℕ}
use Rattle.check_code.specs.CheckCode.{feed, shift, shifted8, shifts}
use lib.Bits.{bit_xor, xor_assoc, xor_block, xor_comm, xor_mod, xor_shifted, xor_shr, xor_zero_r}
use lib.Dec.{lit<, lit≤}
use lib.Pow.{pow_mono}
use mathlib.Core.Path.{◌∙◌, ◌≡◌, ap, ap₂, sym}
use native.Mathlib.Nat.{add-zero, div-add-mod', lt_of_lt_of_le, mul_assoc, mul_comm, mul-one, pow-suc}
use native.Mathlib.Omega.{arith}

xor_double : (a b : ℕ) → bit_xor (a * 2) (b * 2) ≡ bit_xor a b * 2
xor_double a b =
    ap₂ bit_xor (sym (add-zero (a * 2))) (sym (add-zero (b * 2))) ∙ xor_block 1 a b 0 0 (lit< tt) (lit< tt)
    ∙ add-zero (bit_xor a b * 2)

shift_low : (x y : ℕ) → y < 32768 → shift (bit_xor x y) ≡ bit_xor (shift x) (y * 2)
unfolding shift
shift_low x y h =
    ap₂ (λ (p q : ℕ). bit_xor (p * 0x1021) (q * 2))
    (xor_shr x y 15 ∙ ap (bit_xor (x / 32768)) none ∙ xor_zero_r (x / 32768))
    (xor_mod x y 15 ∙ ap (bit_xor (x % 32768)) all)
    ∙ ap (bit_xor (x / 32768 * 0x1021)) (sym (xor_double (x % 32768) y))
    ∙ sym (xor_assoc (x / 32768 * 0x1021) (x % 32768 * 2) (y * 2))
  where
    none : y / 32768 ≡ 0
    none = omega arith

    all : y % 32768 ≡ y
    all = omega arith

-- k shifts, of a number of j bits
shifts_low : (k j x y : ℕ) → y < 2 ^ j → k + j ≤ 16 → shifts k (bit_xor x y) ≡ bit_xor (shifts k x) (y * 2 ^ k)
shifts_low zero j x y h l = ap (bit_xor x) (sym (mul-one y))
shifts_low (suc k) j x y h l =
    ap (shifts k) (shift_low x y (lt_of_lt_of_le h (pow_mono (fits l)))) ∙ shifts_low k (suc j) (shift x) (y * 2) (more (pow-suc 2 j)) (omega arith)
    ∙ ap (bit_xor (shifts k (shift x))) (up (pow-suc 2 k))
  where
    fits : suc k + j ≤ 16 → j ≤ 15
    fits l = omega arith

    more : 2 ^ suc j ≡ 2 ^ j * 2 → y * 2 < 2 ^ suc j
    more e = omega arith

    up : 2 ^ suc k ≡ 2 ^ k * 2 → y * 2 * 2 ^ k ≡ y * 2 ^ suc k
    up e = mul_assoc y 2 (2 ^ k) ∙ ap (λ (x : ℕ). y * x) (mul_comm 2 (2 ^ k) ∙ sym e)

-- the table's step is the definition's
pub feed_by_table : (c b : ℕ) → feed c b ≡ bit_xor (c % 256 * 256) (shifted8 (bit_xor (c / 256) b))
unfolding feed shifted8
feed_by_table c b =
    ap (shifts 8) split ∙ shifts_low 8 8 (bit_xor (c / 256) b * 256) (c % 256) low (lit≤ tt)
    ∙ xor_comm (shifts 8 (bit_xor (c / 256) b * 256)) (c % 256 * 256)
  where
    low : c % 256 < 256
    low = omega arith

    split : bit_xor c (b * 256) ≡ bit_xor (bit_xor (c / 256) b * 256) (c % 256)
    split =
        ap₂ bit_xor (sym (div-add-mod' c 256)) (sym (add-zero (b * 256)))
        ∙ xor_block 8 (c / 256) b (c % 256) 0 low (lit< tt)
        ∙ ap (λ (x : ℕ). bit_xor (c / 256) b * 256 + x) (xor_zero_r (c % 256))
        ∙ sym (xor_shifted (bit_xor (c / 256) b) 8 (c % 256) low)
