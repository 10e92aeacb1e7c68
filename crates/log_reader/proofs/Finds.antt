-- The reader finds every record that was written into a log, and no more.
use Rattle.std.specs.Prelude.{Some}
use Prim.Native.Nat.{◌*◌, ◌+◌, ◌<◌, ◌^◌, ◌≤◌, ℕ}
use Rattle.release_log.proofs.Places.{LiesAt, each_lies}
use Rattle.release_log.proofs.ReadBack.{Plain, count_back}
use Rattle.release_log.specs.Log.{LogRecord, log_bytes, records_at, total}
use Rattle.release_log.specs.Reading.{count_of, end_of, offset_of, record_in}
use Rattle.log_reader.proofs.Counted.{found, lies, not_found}
use Rattle.log_reader.specs.Finding.{between, counted, item_in, item_record}
use Rattle.log_reader.specs.Laws.{Finds, FindsAll}
use borrow.Author.Tests.{le-ltb}
use lib.ListN.{length}
use lib.Seq.{length-sets, sets}
use mathlib.Core.List.{List}
use mathlib.Core.Path.{◌∙◌, ◌≡◌, refl, sym}
use native.Mathlib.Omega.{arith}

-- an item is the record that `log`'s reading finds there
pub same_record : (log : List ℕ) (at end : ℕ) → item_record log (item_in log at end) ≡ record_in log at end
same_record log at end = unfold record_in in refl

-- a log with room for its offsets counts all that it says
counts : (log : List ℕ) (n : ℕ) → count_of log ≡ n → 8 + 4 * n ≤ length log → counted log ≡ n
unfolding counted
counts log n e h =
    let a : 8 ≤ length log = omega arith in
    let b : 8 + 4 * count_of log ≤ length log = omega arith in
    simp (le-ltb _ _ a, le-ltb _ _ b) e

here : (log : List ℕ) (at end : ℕ) → end ≤ length log → at + 17 ≤ end → Some (item_in log at end) ≡ between log at end
unfolding record_in
here log at end h k = lies log at end _ _ h k refl refl

finds : (log : List ℕ) (i : ℕ) (r : LogRecord) → i < counted log → LiesAt log i r → Finds log i r
finds log i r h w =
    let at = offset_of log i in
    let end = end_of log i in
    record {
      item = item_in log at end;
      found = sym (found log i at end _ h refl refl (here log at end w.inside w.long));
      same = same_record log at end ∙ w.same;
      forward = w.long;
      inside = w.inside;
    }

pub finds_all : (log : List ℕ) (rs : List LogRecord) → Plain rs → total rs ≤ length log → total rs < 2 ^ 32
    → FindsAll (sets log 0 (log_bytes rs)) rs
finds_all log rs b h f =
    record {
      count = all;
      each = λ d i l. finds whole i _ (omega (arith, all)) (each_lies log rs b h f d i l);
      no_more = λ i l. sym (not_found whole i (omega (arith, all)));
    }
  where
    whole : List ℕ
    whole = sets log 0 (log_bytes rs)

    room : records_at rs ≤ total rs
    room = unfold total in omega arith

    all : counted whole ≡ length rs
    all = counts whole (length rs) (count_back log rs h f) (omega (arith, room, length-sets log 0 (log_bytes rs)))
