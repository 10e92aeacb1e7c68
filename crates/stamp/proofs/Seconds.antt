-- The seconds of a stamp: no step of the sum is too large for the machine, and the time is in range.
use Prim.Native.Nat.{◌/◌, ◌<◌, ◌≤◌, ℕ}
use Rattle.stamp.specs.Stamp.{secs_of, time_at}
use Rattle.time.proofs.Size.{mag_add, mag_mul, mag_sub, small_ok}
use Rattle.time.specs.Time.{InRange}
use lib.IntN.{◌*ℤ◌, ◌-ℤ◌, pos}
use mir.Syntax.{w64}
use mir.Val.{SFits}
use native.Mathlib.Omega.{arith}

pub days_fit : (d : ℕ) → d < 16777216 → SFits w64 (pos d -ℤ pos 4383)
days_fit d h = record { sfits = omega (arith, mag_sub d 4383) }

pub product_fits : (d : ℕ) → d < 16777216 → SFits w64 ((pos d -ℤ pos 4383) *ℤ pos 86400)
product_fits d h = record { sfits = omega (arith, mag_sub d 4383, mag_mul (pos d -ℤ pos 4383) 86400) }

pub time_in_range : (day ms : ℕ) → day < 16777216 → ms ≤ 86399999 → InRange (time_at day ms)
time_in_range day ms d m =
    record {
      secs = small_ok (secs_of day ms)
          (omega (arith, mag_sub day 4383, mag_mul (pos day -ℤ pos 4383) 86400, mag_add ((pos day -ℤ pos 4383) *ℤ pos 86400) (pos (ms / 1000))));
      nanos = omega arith;
    }
