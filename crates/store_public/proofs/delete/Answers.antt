-- `store_public::delete` meets its contract.
use Rattle.std.proofs.Common.{rules}
use Rattle.store.proofs.Promises.{writes}
use Rattle.store.specs.Calls.{delete_in}
use Rattle.store.specs.Refusals.{done_paper}
use Rattle.store_public.proofs.Calls.{writes_refused}
use Rattle.store_public.proofs.Judging.{sound_by}
use Rattle.store_public.proofs.delete.Goals as goal

pub delete-requires : goal.delete-requires
delete-requires c = sound_by _ _ _ c.in_ok-judge.ensures

pub returns-in_err-judge : goal.returns-in_err-judge
unfolding done_paper
returns-in_err-judge c =
    search (rules, writes_refused _ c.args.store.now _ (λ ps. delete_in ps c.args.addr) _ c.in_err-judge.ensures)

pub returns : goal.returns
returns c = writes _ _ _ _ _ _ _ (sound_by _ _ _ c.in_ok-judge.ensures) c.delete.ensures
