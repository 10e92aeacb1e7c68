-- `handing::hand_out` meets its contract.
use Rattle.handing.proofs.Turning.{turning_first, turning_last, turning_next, turning_room}
use mathlib.Core.Path.{◌∙◌}
use native.Mathlib.Omega.{arith}
use Rattle.handing.proofs.hand_out.Goals as goal

pub loop-i-init : goal.loop-i-init
loop-i-init c = turning_first _ _ _ _ _ _ _ _ c.requires.store_sound

pub hand_one-n-requires-clause-addr_in_bounds : goal.hand_one-n-requires-clause-addr_in_bounds
hand_one-n-requires-clause-addr_in_bounds c =
    let h = turning_room _ _ _ _ _ _ _ _ _ _ _ _ _ c.loop-i.invariant c.loop-i-test.true _ c.tc_info-info.ensures.1 c.requires.roomy in
    omega (arith, h.0, c.put_number.auto.log)

pub overflow_add-at-in-loop-i : goal.overflow_add-at-in-loop-i
overflow_add-at-in-loop-i c =
    let h = turning_room _ _ _ _ _ _ _ _ _ _ _ _ _ c.loop-i.invariant c.loop-i-test.true _ c.tc_info-info.ensures.1 c.requires.roomy in
    omega (arith, h.1, c.hand_one-n.ensures.size)

pub loop-i-preserved : goal.loop-i-preserved
loop-i-preserved c =
    turning_next _ _ _ _ _ _ _ _ _ _ _ _ _ c.loop-i.invariant c.loop-i-test.true _ _ _ _ _ _ _ c.tc_info-info.ensures.0
    c.tc_info-info.ensures.1
    c.put_number.ensures
    (c.hand_one-n.auto.log ∙ c.put_number.auto.log)
    c.hand_one-n.ensures

pub returns : goal.returns
returns c =
    turning_last _ _ _ _ _ _ _ _ _ _ _ _ _ c.loop-i.invariant _ _ c.loop-i-test.false c.put_number-2.ensures c.put_number-3.ensures
