-- `store_public::modify` meets its contract.
use Rattle.std.proofs.Common.{rules}
use Rattle.lookup.specs.Calls.{packet_in}
use Rattle.lookup.specs.Refusals.{length_paper}
use Rattle.store_public.proofs.Calls.{asks_fine, asks_refused}
use Rattle.store_public.proofs.Judging.{sound_by}
use Rattle.store_public.proofs.modify.Goals as goal

pub modify-requires : goal.modify-requires
modify-requires c = sound_by _ _ _ c.in_ok-judge.ensures

pub returns-in_err-judge : goal.returns-in_err-judge
unfolding length_paper
returns-in_err-judge c =
    search (rules, asks_refused _ c.args.store.now _ (λ ps. packet_in ps c.args.addr) _ c.in_err-judge.ensures)

pub returns : goal.returns
returns c = asks_fine _ _ _ (λ ps. packet_in ps c.args.addr) _ (sound_by _ _ _ c.in_ok-judge.ensures) c.modify.ensures
