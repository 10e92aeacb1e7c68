-- How large a number of k bytes is, over the width.
use Prim.Native.Nat.{◌*◌, ◌+◌, ◌<◌, ◌^◌, ◌≤◌, ℕ}
use lib.Pow.{pow-add, pow_mono}
use mathlib.Core.Path.{◌≡◌}
use native.Mathlib.Nat.{lt_of_lt_of_le}
use native.Mathlib.Omega.{arith}

-- a number of at most w bytes, as one of w
pub widen : (w k v : ℕ) → k ≤ w → v < 2 ^ (8 * k) → v < 2 ^ (8 * w)
widen w k v h l = lt_of_lt_of_le l (pow_mono {i = 8 * k} {j = 8 * w} (omega arith))

-- one byte more
pub byte_more : (k v b : ℕ) → v < 2 ^ (8 * k) → b < 256 → v * 256 + b < 2 ^ (8 * (k + 1))
byte_more k v b l h = rw same (rw (pow-add 2 (8 * k) 8) (omega arith))
  where
    same : 8 * (k + 1) ≡ 8 * k + 8
    same = omega arith
