-- The signed seconds, and their unsigned count from -2^42.
use Prim.Native.Nat.{◌-◌, ◌<◌, ◌^◌, ◌≤◌, suc, ℕ}
use Rattle.time.proofs.Size.{mag_sub}
use Rattle.time.specs.Time.{InRange, biased, far, moment_of, secs_in_range, time_of}
use borrow.Author.Tests.{le-leb, le-ltb, lt-leb, lt-ltb, ltb-false, ltb-true}
use lib.Dec.{T, leb→le, ltb→lt}
use lib.IntN.{+ℤ-neg_ℤ_cancel, ◌+ℤ◌, ◌-ℤ◌, negsuc, pos, ℤ}
use lib.Signed.{lt_z}
use mathlib.Core.Bool.{Bool, cond, false, true}
use mathlib.Core.Path.{◌∙◌, ◌≡◌, ap, refl, subst, sym}
use mir.Facts.{to_z-of_z}
use mir.Syntax.{w64}
use mir.Val.{SFits, of_z, to_z}
use native.Mathlib.Omega.{arith}
use Rattle.time.specs.declared.UnixTime.{UnixTime}

pub secs_fit : (z : ℤ) → T (secs_in_range z) → SFits w64 z
secs_fit (pos n) t = record { sfits = omega (arith, leb→le n far t) }
secs_fit (negsuc n) t = record { sfits = omega (arith, ltb→lt n far t) }

pub biased_le : (z : ℤ) → T (secs_in_range z) → biased z ≤ 8796093022208
biased_le (pos n) t = omega (arith, leb→le n far t)
biased_le (negsuc n) t = omega arith

biased_is : (z : ℤ) → T (secs_in_range z) → z +ℤ pos far ≡ pos (biased z)
biased_is (pos n) t = refl
biased_is (negsuc n) t =
    let h : suc n ≤ far = ltb→lt n far t in
    ap (λ (b : Bool). cond b (negsuc (suc n - 4398046511105)) (pos (far - suc n))) (le-ltb far (suc n) h)
    ∙ ap pos (omega arith)

-- a natural number that fits, read back from its bits
pub pos_back : (n : ℕ) → n < 2 ^ 63 → to_z w64 n ≡ pos n
pos_back n h = to_z-of_z {w = w64} {z = pos n} (record { sfits = h })

-- what the machine adds
pub sum_is : (z : ℤ) → T (secs_in_range z) → to_z w64 (of_z w64 z) +ℤ pos far ≡ pos (biased z)
sum_is z t = ap (λ (y : ℤ). y +ℤ pos far) (to_z-of_z (secs_fit z t)) ∙ biased_is z t

pub sum_fits : (z : ℤ) → T (secs_in_range z) → SFits w64 (to_z w64 (of_z w64 z) +ℤ pos far)
sum_fits z t = rw (sum_is z t) (record { sfits = omega (arith, biased_le z t) })

pub sum_back : (z : ℤ) → T (secs_in_range z) → to_z w64 (of_z w64 (to_z w64 (of_z w64 z) +ℤ pos far)) ≡ pos (biased z)
sum_back z t = to_z-of_z (sum_fits z t) ∙ sum_is z t

-- the way back
pub back_fits : (k : ℕ) → k ≤ 8796093022208 → SFits w64 (pos k -ℤ pos far)
back_fits k h = record { sfits = omega (arith, mag_sub k far) }

-- the two tests of the range
pub too_low : (z : ℤ) → SFits w64 z → lt_z (to_z w64 (of_z w64 z)) (negsuc 4398046511103) ≡ true → secs_in_range z ≡ false
too_low z f e = go z (rw (to_z-of_z f) at e)
  where
    go : (z : ℤ) → lt_z z (negsuc 4398046511103) ≡ true → secs_in_range z ≡ false
    go (pos n) e = absurd (subst T (sym e) tt)
    go (negsuc n) e = le-ltb n far (ltb-true 4398046511103 n e)

pub too_high : (z : ℤ) → SFits w64 z → lt_z (pos far) (to_z w64 (of_z w64 z)) ≡ true → secs_in_range z ≡ false
too_high z f e = go z (rw (to_z-of_z f) at e)
  where
    go : (z : ℤ) → lt_z (pos far) z ≡ true → secs_in_range z ≡ false
    go (pos n) e = lt-leb n far (ltb-true far n e)
    go (negsuc n) e = absurd (subst T (sym e) tt)

pub within :
    (z : ℤ) → SFits w64 z → lt_z (to_z w64 (of_z w64 z)) (negsuc 4398046511103) ≡ false → lt_z (pos far) (to_z w64 (of_z w64 z)) ≡ false
    → secs_in_range z ≡ true
within z f e d = go z (rw (to_z-of_z f) at e) (rw (to_z-of_z f) at d)
  where
    go : (z : ℤ) → lt_z z (negsuc 4398046511103) ≡ false → lt_z (pos far) z ≡ false → secs_in_range z ≡ true
    go (pos n) e d = le-leb n far (ltb-false far n d)
    go (negsuc n) e d = lt-ltb n far (omega (arith, ltb-false 4398046511103 n e))

-- there and back
pub moment_back : (t : UnixTime) → InRange t → time_of (moment_of t) ≡ t
moment_back t r = ap (λ (z : ℤ). record { secs = z; nanos = t.nanos }) back
  where
    back : pos (biased t.secs) -ℤ pos far ≡ t.secs
    back = ap (λ (y : ℤ). y -ℤ pos far) (sym (biased_is t.secs r.secs)) ∙ +ℤ-neg_ℤ_cancel t.secs (pos far)
