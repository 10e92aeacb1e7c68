-- `tied::insert_unwrapped_and_stored_tc` meets its contract.
use Rattle.demands.specs.Calling.{Calls}
use borrow.Author.Rules.{rules}
use Rattle.tied.proofs.insert_unwrapped_and_stored_tc.Goals as goal

pub returns : goal.returns
unfolding Calls
returns c = search rules
