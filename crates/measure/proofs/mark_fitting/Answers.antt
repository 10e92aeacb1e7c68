-- `measure::mark_fitting` meets its contract.
use Rattle.measure.proofs.Measuring.{measuring_first, measuring_last, measuring_next, measuring_stop}
use native.Mathlib.Omega.{arith}
use Rattle.measure.proofs.mark_fitting.Goals as goal

pub loop-i-init : goal.loop-i-init
loop-i-init c = measuring_first _ _ _ _ _ _ _ c.requires.store_sound c.requires.le_cap.0

pub returns-then-cap-next : goal.returns-then-cap-next
returns-then-cap-next c = (
  measuring_stop _ _ _ _ _ _ _ _ _ _ c.loop-i.invariant _ _ _
      c.tc_info-info.ensures.1 c.place_of-place.ensures c.bytes_left-len.ensures
      c.loop-i-test.true c.if-cap-next.true,
  c.loop-i.invariant.counted,
)

pub loop-i-preserved : goal.loop-i-preserved
loop-i-preserved c =
    measuring_next _ _ _ _ _ _ _ _ _ _ c.loop-i.invariant _ _ _
    c.tc_info-info.ensures.1 c.place_of-place.ensures c.bytes_left-len.ensures
    c.loop-i-test.true
    c.if-cap-next.false
    _ c.mark.ensures

pub returns : goal.returns
returns c = (omega (arith, measuring_last _ _ _ _ _ _ _ _ _ _ c.loop-i.invariant c.loop-i-test.false), c.loop-i.invariant.counted)
