-- `tied::set_clock` meets its contract.
use Rattle.demands.specs.Calling.{Calls}
use Rattle.tied.proofs.Tying.{changes_record}
use Rattle.tied.proofs.set_clock.Goals as goal

pub returns : goal.returns
unfolding Calls
returns c = changes_record _ _ _ _ _ _ _ _ c.set_clock.ensures
