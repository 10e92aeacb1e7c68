-- `rows::judge::in_order` meets its contract.
use Prim.Native.Nat.{◌+◌}
use Rattle.rows.proofs.Judging.{fours_next, judge_bad, judge_last, judge_next, rows_split}
use Rattle.rows.proofs.Rows.{length_unpack}
use Rattle.std.proofs.lemmas.List.{take_rest}
use lib.ListN.{get_or, length-drop}
use mathlib.Core.List.{[]}
use mathlib.Core.Logic.{⊎_elim}
use mathlib.Core.Path.{◌≡◌, ap}
use native.Mathlib.Omega.{arith}
use Rattle.rows.proofs.judge.in_order.Goals as goal

pub loop-four-preserved : goal.loop-four-preserved
loop-four-preserved c =
    let t = c.table-rows in
    let s = c.loop-four in
    let f = ap (λ fours. get_or fours s.four-index []) c.as_chunks.ensures.front in
    let r = c.four_rise.ensures c.if-not-four_rise.false in (
      omega arith,
      fours_next t.result.now _ t.ensures.entries s.i s.secs s.nanos s.four-index _ _ (omega (arith, c.as_chunks.ensures.front_len)) f
          s.invariant.0
          (omega arith)
          s.invariant.1
          record { first = r.first; second = r.second; third = r.third; fourth = r.fourth },
    )

pub loop-s-init : goal.loop-s-init
loop-s-init c =
    let e : c.loop-four.i ≡ c.loop-four.i + 0 = omega arith in
    rw e at c.loop-four.invariant.1

pub returns-then-n-gt999999999 : goal.returns-then-n-gt999999999
returns-then-n-gt999999999 c =
    let t = c.table-rows in
    let s = c.loop-s in
    let q = rows_split t.result.now _ t.ensures.entries c.loop-four.i s.s-index c.loop-s-test.true in
    judge_bad _ _ s.secs s.nanos _ _ q s.invariant (λ r g. omega (arith, r.nanos_lt))

pub returns-then-n-nanos : goal.returns-then-n-nanos
returns-then-n-nanos c =
    let t = c.table-rows in
    let s = c.loop-s in
    let q = rows_split t.result.now _ t.ensures.entries c.loop-four.i s.s-index c.loop-s-test.true in
    judge_bad _ _ s.secs s.nanos _ _ q s.invariant (λ r g. ⊎_elim (λ h. omega (arith, r.nanos_lt, g)) (λ h. omega (arith, g)) c.if-n-nanos.either)

pub loop-s-preserved : goal.loop-s-preserved
loop-s-preserved c =
    let t = c.table-rows in
    let s = c.loop-s in
    let q = rows_split t.result.now _ t.ensures.entries c.loop-four.i s.s-index c.loop-s-test.true in
    let e : c.loop-four.i + s.s-index + 1 ≡ c.loop-four.i + (s.s-index + 1) = omega arith in
    rw e at (judge_next _ _ s.secs s.nanos _ _ q s.invariant (omega arith) (omega arith) (omega (arith, s.invariant.range)))

pub returns : goal.returns
returns c =
    let s = c.loop-s in
    let l = simp (take_rest, length-drop) at c.loop-s-test.false in
    judge_last _ _ s.secs s.nanos (omega (arith, length_unpack c.args.count c.args.rows.now, c.table-rows.ensures.length)) s.invariant
