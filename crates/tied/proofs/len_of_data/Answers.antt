-- `tied::len_of_data` meets its contract.
use Rattle.demands.specs.Calling.{Calls}
use borrow.Author.Rules.{rules}
use Rattle.tied.proofs.len_of_data.Goals as goal

pub returns : goal.returns
unfolding Calls
returns c = search rules
