-- `tied::delete_by_request_id_and_from_pool` meets its contract.
use Rattle.demands.specs.Calling.{Calls}
use borrow.Author.Rules.{rules}
use Rattle.tied.proofs.delete_by_request_id_and_from_pool.Goals as goal

pub returns : goal.returns
unfolding Calls
returns c = search rules
