-- `store_public::add` meets its contract.
use Rattle.std.proofs.Common.{rules}
use Rattle.store.proofs.Promises.{writes}
use Rattle.store.specs.Calls.{add_in}
use Rattle.store.specs.Refusals.{added_paper}
use Rattle.store_public.proofs.Calls.{writes_refused}
use Rattle.store_public.proofs.Judging.{sound_by}
use Rattle.store_public.proofs.add.Goals as goal

pub add-requires : goal.add-requires
add-requires c = sound_by _ _ _ c.in_ok-judge.ensures

pub returns-in_err-judge : goal.returns-in_err-judge
unfolding added_paper
returns-in_err-judge c =
    search (rules, writes_refused _ c.args.store.now _ (λ ps. add_in c.args.setup.spill ps c.args.packet.now) _ c.in_err-judge.ensures)

pub returns : goal.returns
returns c = writes _ _ _ _ _ _ _ (sound_by _ _ _ c.in_ok-judge.ensures) c.add.ensures
