-- A signed number by its sign, as the machine casts it: below zero counted from -1 down, and from zero on itself.
use Prim.Native.Nat.{◌-◌, ◌<◌, suc, ℕ}
use borrow.Author.Tests.{le-ltb, ltb-true}
use lib.Dec.{T}
use lib.IntN.{◌-ℤ◌, nat_abs, negsuc, pos, ℤ}
use lib.Signed.{lt_z, non_neg}
use mathlib.Core.Bool.{Bool, cond, false, true}
use mathlib.Core.Path.{◌∙◌, ◌≡◌, ap}
use mir.Facts.{to_z-of_z}
use mir.Syntax.{w64}
use mir.Val.{Fits, SFits, of_z, to_z}
use native.Mathlib.Omega.{arith}

abbrev pub low : ℤ → ℕ
low (pos n) = 0
low (negsuc n) = n

pub low_fits : (z : ℤ) → SFits w64 z → low z < 9223372036854775808
low_fits (pos n) f = omega arith
low_fits (negsuc n) f = omega (arith, f.sfits)

module _ (z : ℤ) (f : SFits w64 z) (e : lt_z (to_z w64 (of_z w64 z)) (pos 0) ≡ true) where
  down : negsuc 0 -ℤ to_z w64 (of_z w64 z) ≡ pos (low z)
  down = rw (to_z-of_z f) (go z (rw (to_z-of_z f) at e))
    where
      go : (z : ℤ) → lt_z z (pos 0) ≡ true → negsuc 0 -ℤ z ≡ pos (low z)
      go (pos n) e = absurd (omega (arith, ltb-true n 0 e))
      go (negsuc n) e =
          ap (λ (b : Bool). cond b (negsuc (1 - suc (suc n))) (pos (suc n - 1))) (le-ltb (suc n) 1 (omega arith)) ∙ ap pos (omega arith)

  pub down_fits : SFits w64 (negsuc 0 -ℤ to_z w64 (of_z w64 z))
  down_fits = rw down (record { sfits = low_fits z f })

  pub down_back : to_z w64 (of_z w64 (negsuc 0 -ℤ to_z w64 (of_z w64 z))) ≡ pos (low z)
  down_back = to_z-of_z down_fits ∙ down

  pub down_casts : T (non_neg (to_z w64 (of_z w64 (negsuc 0 -ℤ to_z w64 (of_z w64 z)))))
      × Fits w64 (nat_abs (to_z w64 (of_z w64 (negsuc 0 -ℤ to_z w64 (of_z w64 z)))))
  down_casts = rw down_back (tt, record { fits = omega (arith, low_fits z f) })

pub up_casts : (z : ℤ) → SFits w64 z → lt_z (to_z w64 (of_z w64 z)) (pos 0) ≡ false
    → T (non_neg (to_z w64 (of_z w64 z))) × Fits w64 (nat_abs (to_z w64 (of_z w64 z)))
up_casts z f e = rw (to_z-of_z f) (go z f (rw (to_z-of_z f) at e))
  where
    go : (z : ℤ) → SFits w64 z → lt_z z (pos 0) ≡ false → T (non_neg z) × Fits w64 (nat_abs z)
    go (pos n) f e = (tt, record { fits = omega (arith, f.sfits) })
    go (negsuc n) f e = let q : ◌≡◌ {A = ℕ} 0 1 = cc in absurd (omega arith)
