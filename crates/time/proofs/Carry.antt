-- Seconds and nanoseconds from one number and back, and clock + margin with its carry.
use Prim.Native.Nat.{◌*◌, ◌+◌, ◌-◌, ◌<◌, ◌≤◌, ℕ}
use Rattle.time.specs.Time.{giga, instant_of, moment_at}
use mathlib.Core.Path.{◌≡◌, ap₂}
use native.Mathlib.Omega.{arith}
use Rattle.time.specs.declared.Moment.{Moment}

abbrev pub moment : ℕ → ℕ → Moment
moment s n = record { secs = s; nanos = n }

-- the moment of a number
pub moment_is : (s n x : ℕ) → n < giga → x ≡ s * giga + n → moment s n ≡ moment_at x
moment_is s n x h e = ap₂ moment (omega arith) (omega arith)

-- a sum whose nanoseconds stay below a second, and one that carries
pub sum_stays : (s t n m : ℕ) → n + m < giga → moment (s + t) (n + m) ≡ moment_at (s * giga + n + (t * giga + m))
sum_stays s t n m h = moment_is (s + t) (n + m) _ h (omega arith)

pub sum_carries : (s t n m : ℕ) → n < giga → m < giga → giga ≤ n + m
    → moment (s + t + 1) (n + m - giga) ≡ moment_at (s * giga + n + (t * giga + m))
sum_carries s t n m a b h = moment_is (s + t + 1) (n + m - giga) _ (omega arith) (omega arith)

-- the number of a number's moment
pub instant_at : (x : ℕ) → instant_of (moment_at x) ≡ x
instant_at x = omega arith
