-- `sweep::sweep` meets its contract.
use mathlib.Core.Path.{refl}
use native.Mathlib.Omega.{arith}
use Rattle.sweep.proofs.Sweeping.{going_first, going_last, going_next}
use Rattle.sweep.proofs.sweep.Goals as goal

pub loop-i-init : goal.loop-i-init
loop-i-init c = going_first _ _ _ _ _ _ _ (omega arith) c.requires.store_sound

pub loop-i-preserved : goal.loop-i-preserved
loop-i-preserved c =
    going_next _ _ _ _ _ _ _ _ _ _ _ c.loop-i.invariant c.loop-i-test.true c.requires.number_bound _ _ _ _ _ c.tc_info-info.ensures.1
    c.delete-d.ensures c.one_more-c.ensures

pub returns : goal.returns
returns c = going_last _ _ _ _ _ _ _ _ _ _ _ _ _ c.loop-i.invariant c.loop-i-test.false refl c.last_of-last.ensures
