-- `tied::modify` meets its contract.
use Rattle.demands.specs.Calling.{Calls}
use Rattle.tied.proofs.Tying.{nothing_modified}
use Rattle.tied.proofs.modify.Goals as goal

pub returns : goal.returns
unfolding Calls
returns c = nothing_modified _ _ _ _ _ _ _ c.modify.ensures
