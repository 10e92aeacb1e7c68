-- Seconds from their two's complement, as the machine counts.
use Rattle.face_reading.specs.Reading.{signed, signed_by}
use Prim.Native.Nat.{◌-◌, ◌<◌, suc, ℕ}
use borrow.Author.Tests.{ltb-false, ltb-true}
use lib.Dec.{ltb}
use lib.IntN.{ℤ}
use mathlib.Core.Bool.{Bool, false, true}
use mathlib.Core.Path.{◌∙◌, ◌≡◌, ap, refl}
use mir.Facts.{to_z-of_z, to_z-neg, to_z_pos}
use mir.Syntax.{w64}
use mir.Val.{SFits, of_z, to_z}
use native.Mathlib.Omega.{arith}
use Rattle.time.specs.declared.UnixTime.{UnixTime}

pub signed_is : (w : ℕ) → w < 18446744073709551616 → to_z w64 w ≡ signed w
unfolding signed_by
signed_is w f = go (ltb w 9223372036854775808) refl
  where
    go : (b : Bool) → ltb w 9223372036854775808 ≡ b → to_z w64 w ≡ signed_by b w
    go true e = to_z_pos w64 (ltb-true w 9223372036854775808 e)
    go false e =
        let l = ltb-false w 9223372036854775808 e in
        let k : w ≡ 18446744073709551616 - suc (18446744073709551615 - w) = omega arith in
        ap (to_z w64) k ∙ to_z-neg w64 (18446744073709551615 - w) (omega arith)

pub held_time : (z : ℤ) (n : ℕ) (t : UnixTime) → SFits w64 z → t ≡ record { secs = to_z w64 (of_z w64 z); nanos = n }
    → t ≡ record { secs = z; nanos = n }
held_time z n t f e = e ∙ ap (λ (y : ℤ). record { secs = y; nanos = n }) (to_z-of_z f)
