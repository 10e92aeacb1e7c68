-- `store_public::len_of_data` meets its contract.
use Rattle.std.proofs.Common.{rules}
use Rattle.presence.specs.Presence.{len_in}
use Rattle.lookup.specs.Refusals.{length_paper}
use Rattle.store_public.proofs.Calls.{asks_fine, asks_refused}
use Rattle.store_public.proofs.Judging.{sound_by}
use Rattle.store_public.proofs.len_of_data.Goals as goal

pub len_of_data-requires : goal.len_of_data-requires
len_of_data-requires c = sound_by _ _ _ c.in_ok-judge.ensures

pub returns-in_err-judge : goal.returns-in_err-judge
unfolding length_paper
returns-in_err-judge c =
    search (rules, asks_refused _ c.args.store.now _ (λ ps. len_in ps c.args.addr) _ c.in_err-judge.ensures)

pub returns : goal.returns
returns c = asks_fine _ _ _ (λ ps. len_in ps c.args.addr) _ (sound_by _ _ _ c.in_ok-judge.ensures) c.len_of_data.ensures
