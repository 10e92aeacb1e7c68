-- `tied::delete_by_time_filter` meets its contract.
use Rattle.demands.specs.Calling.{Calls}
use borrow.Author.Rules.{rules}
use Rattle.tied.proofs.delete_by_time_filter.Goals as goal

pub returns : goal.returns
unfolding Calls
returns c = search rules
