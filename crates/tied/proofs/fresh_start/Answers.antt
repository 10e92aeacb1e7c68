-- `tied::fresh_start` meets its contract.
use Rattle.demands.specs.Calling.{Promised}
use borrow.Author.Rules.{rules}
use Rattle.tied.proofs.fresh_start.Goals as goal

pub returns : goal.returns
unfolding Promised
returns c = search rules
