-- The premises of the laws over sequences are met by all that their words allow.
use Prim.Native.Nat.{◌<◌, suc, zero, ℕ}
use Rattle.scheduler.specs.Fits.{Bytes, OfBytes}
use Rattle.scheduler.specs.Premises.{AmpleIfLong, BytesAre}
use Rattle.scheduler.specs.Steps.{insert_wrapped}
use mathlib.Core.List.{List, [], ◌∷◌}
use mathlib.Core.Path.{◌≡◌, subst}
use native.Mathlib.Omega.{arith}

no_bytes : Bytes []
no_bytes i = omega arith

byte_more : (x : ℕ) (s : List ℕ) → x < 256 → Bytes s → Bytes (x ∷ s)
byte_more x s l b zero = l
byte_more x s l b (suc i) = b i

wrapped_bytes : (p : List ℕ) → Bytes p → OfBytes (insert_wrapped p)
wrapped_bytes s b p e = let q : s ≡ p = cc in subst Bytes q b

pub bytes_are : BytesAre
bytes_are =
    record {
      no_byte = no_bytes;
      one_more = byte_more;
      wrapped = wrapped_bytes;
      others = λ q n p e. absurd (n p e);
      no_request = tt;
      more_requests = λ q qs o os. (o, os);
    }

pub ample_if_long : (k big : ℕ) → AmpleIfLong k big
ample_if_long k big = record { no_log = tt; one_more = λ log logs h l a. (omega arith, a) }
