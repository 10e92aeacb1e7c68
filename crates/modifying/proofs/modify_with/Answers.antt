-- `modifying::modify_with` meets its contract.
use Rattle.std.proofs.Common.{rules}
use Rattle.lookup.specs.Refusals.{length_paper}
use Rattle.store.proofs.Promises.{writes}
use Rattle.store.specs.Calls.{modify_in}
use Rattle.store_public.proofs.Calls.{writes_refused}
use Rattle.store_public.proofs.Judging.{sound_by}
use Rattle.modifying.proofs.modify_with.Goals as goal

pub modify_with-requires : goal.modify_with-requires
modify_with-requires c = sound_by _ _ _ c.in_ok-judge.ensures

pub returns-in_err-judge : goal.returns-in_err-judge
unfolding length_paper
returns-in_err-judge c =
    search (rules, writes_refused _ c.args.store.now _ (λ ps. modify_in ps c.args.addr c.args.given.now) _ c.in_err-judge.ensures)

pub returns : goal.returns
returns c = writes _ _ _ _ _ _ _ (sound_by _ _ _ c.in_ok-judge.ensures) c.modify_with.ensures
