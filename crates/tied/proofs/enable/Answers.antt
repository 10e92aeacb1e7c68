-- `tied::enable` meets its contract.
use Rattle.demands.specs.Calling.{Calls}
use Rattle.tied.proofs.Tying.{changes_record}
use Rattle.tied.proofs.enable.Goals as goal

pub returns : goal.returns
unfolding Calls
returns c = changes_record _ _ _ _ _ _ _ _ c.enable.ensures
