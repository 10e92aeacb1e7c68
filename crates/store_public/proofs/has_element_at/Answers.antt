-- `store_public::has_element_at` meets its contract.
use Rattle.std.proofs.Common.{rules}
use Rattle.presence.specs.Presence.{has_in}
use Rattle.lookup.specs.Refusals.{presence_paper}
use Rattle.store_public.proofs.Calls.{asks_fine, asks_refused}
use Rattle.store_public.proofs.Judging.{sound_by}
use Rattle.store_public.proofs.has_element_at.Goals as goal

pub has_element_at-requires : goal.has_element_at-requires
has_element_at-requires c = sound_by _ _ _ c.in_ok-judge.ensures

pub returns-in_err-judge : goal.returns-in_err-judge
unfolding presence_paper
returns-in_err-judge c =
    search (rules, asks_refused _ c.args.store.now _ (λ ps. has_in ps c.args.addr) _ c.in_err-judge.ensures)

pub returns : goal.returns
returns c = asks_fine _ _ _ (λ ps. has_in ps c.args.addr) _ (sound_by _ _ _ c.in_ok-judge.ensures) c.has_element_at.ensures
