-- `tied::modify_with` meets its contract.
use Rattle.demands.specs.Calling.{Calls}
use borrow.Author.Rules.{rules}
use Rattle.tied.proofs.modify_with.Goals as goal

pub returns : goal.returns
unfolding Calls
returns c = search rules
