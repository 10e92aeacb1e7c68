-- Each record of a log that was written lies where its offset and its end say, inside the log.
use Prim.Native.Nat.{◌+◌, ◌<◌, ◌^◌, ◌≤◌, suc, zero, ℕ}
use Rattle.release_log.proofs.ReadBack.{Plain, PlainOne, Stands, first_end, first_offset, first_record, further, stands}
use Rattle.release_log.proofs.Sizes.{size_records, written}
use Rattle.release_log.specs.Log.{LogRecord, log_bytes, records, records_at, total}
use Rattle.release_log.specs.Reading.{end_of, offset_of, record_in}
use lib.ListN.{drop, get_or, length, length-append}
use lib.Seq.{sets}
use mathlib.Core.List.{List, [], ◌++◌, ◌∷◌}
use mathlib.Core.Path.{◌≡◌, ap}
use native.Mathlib.Nat.{le_of_suc-le-suc, not-suc-le-zero, zero-add}
use native.Mathlib.Omega.{arith}

-- record i of the log is r; it has 17 bytes or more, and ends inside
pub record LiesAt (log : List ℕ) (i : ℕ) (r : LogRecord) : Type 0 where
  pub same : record_in log (offset_of log i) (end_of log i) ≡ r
  pub long : offset_of log i + 17 ≤ end_of log i
  pub inside : end_of log i ≤ length log

first_lies : (log : List ℕ) (i at : ℕ) (r : LogRecord) (rs : List LogRecord) → PlainOne r → Stands log i at (r ∷ rs) → LiesAt log i r
first_lies log i at r rs b w =
    let o = first_offset log i at r rs w in
    let e = first_end log i at r rs w in
    record {
      same = first_record log i at r rs b w;
      long = omega (arith, o, e);
      inside =
          omega (
            arith,
            e,
            size_records r rs,
            ap (λ (l : List ℕ). length l) w.records_there,
            length-append w.s (records (r ∷ rs) ++ w.t),
            length-append (records (r ∷ rs)) w.t,
            w.records_at_lem,
          );
    }

-- record j of those that stand from record i on
further_lies : (log : List ℕ) (i j k at : ℕ) (rs : List LogRecord) (d : LogRecord) → i + j ≡ k → Plain rs → Stands log i at rs → j < length rs
    → LiesAt log k (get_or rs j d)
further_lies log i j k at [] d e b w l = absurd (not-suc-le-zero l)
further_lies log i zero k at (r ∷ rs) d e b w l = let q : k ≡ i = omega arith in rw q (first_lies log i at r rs b.0 w)
further_lies log i (suc j) k at (r ∷ rs) d e b w l =
    further_lies log (suc i) j k (at + 17 + length r.packet) rs d (omega arith) b.1 (further log i at r rs w) (le_of_suc-le-suc l)

pub each_lies : (log : List ℕ) (rs : List LogRecord) → Plain rs → total rs ≤ length log → total rs < 2 ^ 32
    → (d : LogRecord) (i : ℕ) → i < length rs → LiesAt (sets log 0 (log_bytes rs)) i (get_or rs i d)
each_lies log rs b h f d i l =
    rw (written log rs h)
    (further_lies (log_bytes rs ++ drop (total rs) log) 0 i i (records_at rs) rs d (zero-add i) b (stands (drop (total rs) log) rs f) l)
