-- The room, the number of ticks and the slot size that repeated ticks name.
use Prim.Native.Nat.{◌*◌, ◌+◌, ◌-◌, ◌<◌, ◌≤◌, suc, zero, ℕ}
use Rattle.layout.specs.Limits.{max_slot_size}
use Rattle.layout.specs.declared.Setup.{Setup}
use Rattle.release_log.proofs.Sizes.{size_records}
use Rattle.release_log.specs.Log.{LogRecord, max_log_bytes, records, total}
use Rattle.turns_laws.specs.Draining.{room_for, rounded_up}
use Rattle.turns_laws.specs.Premises.{FewestTicks, LargestIsOne, RoomToBeHad}
use lib.ListN.{length, length-replicate, replicate}
use mathlib.Core.Logic.{◌⊎◌, inl, inr, ⊎_elim}
use mathlib.Core.Path.{◌≡◌, refl}
use native.Mathlib.Nat.{div-add-mod', mul-le-mul_right}
use native.Mathlib.Omega.{arith}

le_or_lt : (a b : ℕ) → (a ≤ b) ⊎ (b < a)
le_or_lt zero b = inl (omega arith)
le_or_lt (suc a) zero = inr (omega arith)
le_or_lt (suc a) (suc b) = ⊎_elim (λ (l : a ≤ b). inl (omega arith)) (λ (l : b < a). inr (omega arith)) (le_or_lt a b)

alike : (k : ℕ) (r : LogRecord) → length (records (replicate k r)) ≡ k * (17 + length r.packet)
unfolding records
alike zero r = omega arith
alike (suc k) r = omega (arith, size_records r (replicate k r), alike k r)

taken_by : (k : ℕ) (r : LogRecord) → room_for k (length r.packet) ≡ total (replicate k r)
unfolding total
taken_by k r = omega (arith, alike k r, length-replicate k r)

had_for : (k big : ℕ) → k ≤ 254 → big ≤ max_slot_size → room_for k big ≤ max_log_bytes
had_for k big l h =
    let m : k * (21 + big) ≤ 254 * (21 + big) = mul-le-mul_right {m = k} {n = 254} (21 + big) l in
    omega arith

pub room_to_be_had : RoomToBeHad
room_to_be_had = record { taken = taken_by; had = had_for; most = omega arith }

-- were they more than n, they would have n + 1 times k entries, which is more than there are
pub fewest_ticks : FewestTicks
unfolding FewestTicks
fewest_ticks d k n h l =
    let e = div-add-mod' (d + (k - 1)) k in
    ⊎_elim (λ (a : rounded_up d k ≤ n). a)
    (λ (b : n < rounded_up d k).
    let m : (n + 1) * k ≤ rounded_up d k * k = mul-le-mul_right {m = n + 1} {n = rounded_up d k} k (omega arith) in absurd (omega arith))
    (le_or_lt (rounded_up d k) n)

pub largest_is_one : (su : Setup) → LargestIsOne su
largest_is_one su = record { subpool = su.pools - 1; there = λ h. omega arith; size = refl }
