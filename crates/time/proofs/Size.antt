-- How large a signed result can be.
use Prim.Native.Nat.{◌*◌, ◌+◌, ◌-◌, ◌<◌, ◌≤◌, suc, zero, ℕ}
use Rattle.time.specs.Time.{far, secs_in_range}
use lib.Dec.{T, le→leb, ltb, lt→ltb}
use lib.IntN.{◌*ℤ◌, ◌+ℤ◌, negsuc, neg_ℤ, pos, sub_ℕ, ℤ}
use lib.Signed.{mag}
use mathlib.Core.Bool.{Bool, cond, false, true}
use native.Mathlib.Nat.{le_of_lt, le-suc, mul-le-mul_right}
use native.Mathlib.Omega.{arith}

pub mag_sub : (a b : ℕ) → mag (sub_ℕ a b) ≤ a + b
mag_sub a b = go (ltb a b)
  where
    go : (t : Bool) → mag (cond t (negsuc (b - suc a)) (pos (a - b))) ≤ a + b
    go true = omega arith
    go false = omega arith

mag_neg : (x : ℕ) → mag (neg_ℤ (pos x)) ≤ x
mag_neg zero = omega arith
mag_neg (suc n) = omega arith

pub mag_add : (y z : ℤ) → mag (y +ℤ z) ≤ mag y + mag z + 1
mag_add (pos a) (pos b) = omega arith
mag_add (pos a) (negsuc b) = omega (arith, mag_sub a (suc b))
mag_add (negsuc a) (pos b) = omega (arith, mag_sub b (suc a))
mag_add (negsuc a) (negsuc b) = omega arith

pub mag_mul : (y : ℤ) (n : ℕ) → mag (y *ℤ pos n) ≤ suc (mag y) * n
mag_mul (pos a) n = mul-le-mul_right n (le-suc a)
mag_mul (negsuc a) n = mag_neg (suc a * n)

pub small_ok : (z : ℤ) → mag z < far → T (secs_in_range z)
small_ok (pos n) h = le→leb n far (le_of_lt h)
small_ok (negsuc n) h = lt→ltb n far h
