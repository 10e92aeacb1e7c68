-- `stamp::read_width` meets its contract, at every width of the day up to three bytes: both forms cite this.
use Prim.Native.Nat.{◌+◌, ◌<◌, ◌≤◌}
use Rattle.rules.specs.Tests.{unless}
use Rattle.stamp.specs.Stamp.{stamp_at}
use Rattle.time.proofs.Signed.{secs_fit}
use Rattle.words.proofs.Width.{widen}
use Rattle.words.specs.Words.{number}
use borrow.Author.Tests.{le-leb, lt-leb}
use mir.Facts.{to_z-of_z}
use native.Mathlib.Omega.{arith}
use Rattle.stamp.proofs.read_width.Goals as goal

pub returns-then-bytes-n : goal.returns-then-bytes-n
unfolding stamp_at unless
returns-then-bytes-n c = record { same = simp (lt-leb _ _ c.if-bytes-n.true); timely = tt }

pub returns-then-ms-gt86399999 : goal.returns-then-ms-gt86399999
unfolding stamp_at unless
returns-then-ms-gt86399999 c =
    let a = c.args in
    let h : 86399999 < number 4 (1 + a.width) a.bytes.now = omega arith in
    record { same = simp (le-leb _ _ c.if-bytes-n.false, lt-leb _ _ h); timely = tt }

pub secs-requires : goal.secs-requires
secs-requires c =
    (widen 3 _ _ c.requires c.read-day.ensures.below, c.if-ms-gt86399999.false)

pub returns : goal.returns
unfolding stamp_at unless
returns c =
    let a = c.args in
    let d = c.read-day in
    let m = c.read-ms in
    let h : number 4 (1 + a.width) a.bytes.now ≤ 86399999 = omega arith in
    let b = to_z-of_z (secs_fit c.secs.result c.secs.ensures.1) in
    record {
      same =
          simp (le-leb _ _ c.if-bytes-n.false, le-leb _ _ h)
          (rw (b, c.secs.ensures.0, d.ensures.same, m.ensures.same));
      timely = rw b (record { secs = c.secs.ensures.1; nanos = omega arith });
    }
