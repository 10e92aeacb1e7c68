-- Exclusive-or passes through the feeding of bytes.
use Prim.Native.Nat.{◌%◌, ◌*◌, ◌/◌, ◌<◌, suc, zero, ℕ}
use Rattle.check_code.proofs.Linear.{Linear, after, both, down, low, swap, up}
use Rattle.check_code.specs.CheckCode.{feed, shift, shifts}
use Rattle.check_code.specs.Inside.{feed4, feed8}
use lib.Bits.{bit_xor, xor_lt, xor_zero_l}
use mathlib.Core.Path.{◌∙◌, ◌≡◌, ap, ap₂, refl, sym}
use native.Mathlib.Omega.{arith}

-- the bit that falls out, where it is one bit alone
times : (p q : ℕ) → p < 2 → q < 2 → bit_xor p q * 0x1021 ≡ bit_xor (p * 0x1021) (q * 0x1021)
times zero q hp hq = ap (λ (x : ℕ). x * 0x1021) (xor_zero_l q) ∙ sym (xor_zero_l (q * 0x1021))
times (suc zero) zero hp hq = refl
times (suc zero) (suc zero) hp hq = refl
times (suc zero) (suc (suc q)) hp hq = omega arith
times (suc (suc p)) q hp hq = omega arith

-- a shift of any number, of which only the sixteenth bit falls out
unfoldable pub shift_any : ℕ → ℕ
shift_any c = bit_xor (c / 32768 % 2 * 0x1021) (c % 32768 * 2)

abbrev pub shifts_any : ℕ → ℕ → ℕ
shifts_any zero c = c
shifts_any (suc k) c = shifts_any k (shift_any c)

unfoldable pub feed_any : ℕ → ℕ → ℕ
feed_any c b = shifts_any 8 (bit_xor c (b * 256))

fallen : Linear (λ (c : ℕ). c / 32768 % 2 * 0x1021)
fallen a b =
    ap (λ (x : ℕ). x * 0x1021) (after (λ (x : ℕ). x % 2) (λ (x : ℕ). x / 32768) (low 1) (down 15) a b)
    ∙ times (a / 32768 % 2) (b / 32768 % 2) (omega arith) (omega arith)

shift_linear : Linear shift_any
unfolding shift_any
shift_linear =
    both (λ (c : ℕ). c / 32768 % 2 * 0x1021) (λ (c : ℕ). c % 32768 * 2) fallen
    (after (λ (x : ℕ). x * 2) (λ (x : ℕ). x % 32768) (up 1) (low 15))

shifts_linear : (k : ℕ) → Linear (shifts_any k)
shifts_linear zero a b = refl
shifts_linear (suc k) a b = ap (shifts_any k) (shift_linear a b) ∙ shifts_linear k (shift_any a) (shift_any b)

-- of a code and a word
abbrev pub Linear₂ : (ℕ → ℕ → ℕ) → Type 0
Linear₂ g = (c d w v : ℕ) → g (bit_xor c d) (bit_xor w v) ≡ bit_xor (g c w) (g d v)

feed_linear : Linear₂ feed_any
unfolding feed_any
feed_linear c d b e =
    ap (shifts_any 8) (ap (bit_xor (bit_xor c d)) (up 8 b e) ∙ swap c d (b * 256) (e * 256))
    ∙ shifts_linear 8 (bit_xor c (b * 256)) (bit_xor d (e * 256))

then : (g : ℕ → ℕ → ℕ) (h : ℕ → ℕ) → Linear₂ g → Linear h → Linear₂ (λ (c w : ℕ). feed_any (g c w) (h w))
then g h lg lh c d w v = ap₂ feed_any (lg c d w v) (lh w v) ∙ feed_linear (g c w) (g d v) (h w) (h v)

unfoldable pub feed_any4 : ℕ → ℕ → ℕ
feed_any4 c w = feed_any (feed_any (feed_any (feed_any c (w / 16777216 % 256)) (w / 65536 % 256)) (w / 256 % 256)) (w % 256)

unfoldable pub feed_any8 : ℕ → ℕ → ℕ
feed_any8 c w = feed_any4 (feed_any4 c (w / 4294967296)) (w % 4294967296)

pub linear4 : Linear₂ feed_any4
unfolding feed_any4
linear4 =
    then (λ (c w : ℕ). feed_any (feed_any (feed_any c (w / 16777216 % 256)) (w / 65536 % 256)) (w / 256 % 256)) (λ (w : ℕ). w % 256)
    (then (λ (c w : ℕ). feed_any (feed_any c (w / 16777216 % 256)) (w / 65536 % 256)) (λ (w : ℕ). w / 256 % 256)
    (then (λ (c w : ℕ). feed_any c (w / 16777216 % 256)) (λ (w : ℕ). w / 65536 % 256)
    (then (λ (c w : ℕ). c) (λ (w : ℕ). w / 16777216 % 256) (λ c d w v. refl)
    (after (λ (x : ℕ). x % 256) (λ (x : ℕ). x / 16777216) (low 8) (down 24)))
    (after (λ (x : ℕ). x % 256) (λ (x : ℕ). x / 65536) (low 8) (down 16)))
    (after (λ (x : ℕ). x % 256) (λ (x : ℕ). x / 256) (low 8) (down 8)))
    (low 8)

pub linear8 : Linear₂ feed_any8
unfolding feed_any8
linear8 c d w v =
    ap₂ feed_any4 (ap (feed_any4 (bit_xor c d)) (down 32 w v) ∙ linear4 c d (w / 4294967296) (v / 4294967296)) (low 32 w v)
    ∙ linear4 (feed_any4 c (w / 4294967296)) (feed_any4 d (v / 4294967296)) (w % 4294967296) (v % 4294967296)

-- on codes and bytes, these are the definition's
shift_below : (c : ℕ) → c < 65536 → (shift c ≡ shift_any c) × (shift c < 65536)
unfolding shift shift_any
shift_below c h =
    let e : c / 32768 ≡ c / 32768 % 2 = omega arith in
    let a : c / 32768 * 0x1021 < 65536 = omega arith in
    let b : c % 32768 * 2 < 65536 = omega arith in
    (ap (λ (x : ℕ). bit_xor (x * 0x1021) (c % 32768 * 2)) e, xor_lt 16 (c / 32768 * 0x1021) (c % 32768 * 2) a b)

shifts_below : (k c : ℕ) → c < 65536 → (shifts k c ≡ shifts_any k c) × (shifts k c < 65536)
shifts_below zero c h = (refl, h)
shifts_below (suc k) c h =
    let s = shift_below c h in
    let r = shifts_below k (shift c) s.1 in (r.0 ∙ ap (shifts_any k) s.0, r.1)

feed_below : (c b : ℕ) → c < 65536 → b < 256 → (feed c b ≡ feed_any c b) × (feed c b < 65536)
unfolding feed feed_any
feed_below c b h l = shifts_below 8 (bit_xor c (b * 256)) (xor_lt 16 c (b * 256) h (omega arith))

pub below4 : (c w : ℕ) → c < 65536 → (feed4 c w ≡ feed_any4 c w) × (feed4 c w < 65536)
unfolding feed4 feed_any4
below4 c w h =
    let a : ℕ = w / 16777216 % 256 in
    let b : ℕ = w / 65536 % 256 in
    let d : ℕ = w / 256 % 256 in
    let p = feed_below c a h (omega arith) in
    let q = feed_below (feed c a) b p.1 (omega arith) in
    let r = feed_below (feed (feed c a) b) d q.1 (omega arith) in
    let s = feed_below (feed (feed (feed c a) b) d) (w % 256) r.1 (omega arith) in (
      s.0 ∙ ap (λ (x : ℕ). feed_any x (w % 256)) (r.0 ∙ ap (λ (x : ℕ). feed_any x d) (q.0 ∙ ap (λ (x : ℕ). feed_any x b) p.0)),
      s.1,
    )

-- eight bytes are four and four
pub halves : (c w : ℕ) → feed8 c w ≡ feed4 (feed4 c (w / 4294967296)) (w % 4294967296)
unfolding feed8 feed4
halves c w =
    let a : w / 72057594037927936 % 256 ≡ w / 4294967296 / 16777216 % 256 = omega arith in
    let b : w / 281474976710656 % 256 ≡ w / 4294967296 / 65536 % 256 = omega arith in
    let d : w / 1099511627776 % 256 ≡ w / 4294967296 / 256 % 256 = omega arith in
    let e : w / 16777216 % 256 ≡ w % 4294967296 / 16777216 % 256 = omega arith in
    let f : w / 65536 % 256 ≡ w % 4294967296 / 65536 % 256 = omega arith in
    let g : w / 256 % 256 ≡ w % 4294967296 / 256 % 256 = omega arith in
    let h : w % 256 ≡ w % 4294967296 % 256 = omega arith in
    rw (a, b, d, e, f, g, h)

pub below8 : (c w : ℕ) → c < 65536 → (feed8 c w ≡ feed_any8 c w) × (feed8 c w < 65536)
unfolding feed_any8
below8 c w h =
    let p = below4 c (w / 4294967296) h in
    let q = below4 (feed4 c (w / 4294967296)) (w % 4294967296) p.1 in
    rw (halves c w) (q.0 ∙ ap (λ (x : ℕ). feed_any4 x (w % 4294967296)) p.0, q.1)
