-- `client::sweep_judged` meets its contract.
use Rattle.client.proofs.Going.{going_last, going_next}
use Rattle.client.proofs.sweep_judged.Goals as goal

pub loop-addr-preserved : goal.loop-addr-preserved
loop-addr-preserved c = going_next _ _ _ _ _ _ _ _ c.loop-addr.invariant c.loop-addr-test.true _ _ _ _ c.delete.ensures (cc)

pub returns : goal.returns
returns c = going_last _ _ _ _ _ _ _ _ c.loop-addr.invariant c.loop-addr-test.false
