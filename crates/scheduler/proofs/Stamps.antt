-- A stamp that is read from bytes has a time in range.
use Rattle.std.specs.Prelude.{Option, None, Result, Ok, Err}
use Rattle.packet.specs.declared.Header.{Header}
use Rattle.packet.specs.declared.Fault.{Fault}
use Rattle.rules.proofs.Cases.{either}
use Prim.Native.Nat.{◌*◌, ◌+◌, ◌-◌, ◌<◌, ◌^◌, ◌≤◌, suc, zero, ℕ}
use Rattle.packet.specs.Packet.{data_of}
use Rattle.packet_tests.specs.Tests.{data_from, shortest}
use Rattle.rules.specs.Tests.{unless}
use Rattle.scheduler.specs.Fits.{Bytes}
use Rattle.stamp.proofs.Seconds.{time_in_range}
use Rattle.stamp.specs.Stamp.{Timely, stamp_at, stamp_of}
use Rattle.stamp.specs.declared.Stamp.{Stamp}
use Rattle.words.proofs.Width.{byte_more, widen}
use Rattle.words.specs.Words.{number}
use borrow.Author.Tests.{leb-true}
use lib.Dec.{eqb}
use lib.ListN.{drop, get_or, take}
use lib.Seq.{get_or-drop}
use mathlib.Core.Bool.{Bool, cond, false, true}
use mathlib.Core.List.{List, [], ◌∷◌}
use mathlib.Core.Path.{◌≡◌}
use native.Mathlib.Numerals.{add-one}
use native.Mathlib.Omega.{arith}

bytes_take : (n : ℕ) (l : List ℕ) → Bytes l → Bytes (take n l)
bytes_take zero l h i = omega arith
bytes_take (suc n) [] h i = h i
bytes_take (suc n) (x ∷ l) h zero = h 0
bytes_take (suc n) (x ∷ l) h (suc i) = bytes_take n l (λ j. h (suc j)) i

bytes_drop : (n : ℕ) (l : List ℕ) → Bytes l → Bytes (drop n l)
bytes_drop n l h i = rw (get_or-drop n l i 0) (h (n + i))

-- the user data of a packet of bytes
pub data_bytes : (p : List ℕ) → Bytes p → (x : Result Header Fault) → Bytes (data_of 2 p x)
unfolding data_of
data_bytes p h (Ok x) = bytes_take (x.total - shortest 2) (drop (data_from 2) p) (bytes_drop (data_from 2) p h)
data_bytes p h (Err y) = λ i. omega arith

number_below : (s : List ℕ) → Bytes s → (k at : ℕ) → number k at s < 2 ^ (8 * k)
unfolding number
number_below s h zero at = omega arith
number_below s h (suc k) at = rw (← (add-one k)) (byte_more k (number k at s) (get_or s (at + k) 0) (number_below s h k at) (h (at + k)))

unless_timely : (b : Bool) (x : Option Stamp) → (b ≡ true → Timely x) → Timely (unless b None x)
unless_timely b x h = either Timely b x None h (λ e. tt)

width_timely : (w : ℕ) (s : List ℕ) → w ≤ 3 → Bytes s → Timely (stamp_at w s)
unfolding stamp_at
width_timely w s l h =
    unless_timely _ _
    (λ e. unless_timely _ _
    (λ m. time_in_range _ _ (widen 3 w _ l (number_below s h w 1)) (leb-true _ _ m)))

pub stamp_timely : (s : List ℕ) → Bytes s → Timely (stamp_of s)
unfolding stamp_of
stamp_timely s h = go (eqb (get_or s 0 0) 0x40) (eqb (get_or s 0 0) 0x44)
  where
    go : (a b : Bool) → Timely (cond a (stamp_at 2 s) (cond b (stamp_at 3 s) None))
    go true b = width_timely 2 s (omega arith) h
    go false true = width_timely 3 s (omega arith) h
    go false false = tt
