-- `client::sweep` meets its contract.
use Rattle.std.proofs.Common.{rules}
use Rattle.client.specs.Answers.{swept_paper}
use Rattle.client.specs.Sweep.{sweep_in}
use Rattle.store.proofs.Promises.{writes}
use Rattle.store_public.proofs.Calls.{writes_refused}
use Rattle.store_public.proofs.Judging.{sound_by}
use Rattle.client.proofs.sweep.Goals as goal

pub sweep_judged-requires : goal.sweep_judged-requires
sweep_judged-requires c = sound_by _ _ _ c.in_ok-judge.ensures

pub returns-in_err-judge : goal.returns-in_err-judge
unfolding swept_paper
returns-in_err-judge c = search (rules, writes_refused _ c.args.bytes.now _ (sweep_in c.args.addrs.now) _ c.in_err-judge.ensures)

pub returns : goal.returns
unfolding swept_paper
returns c = writes _ _ _ _ _ _ _ (sound_by _ _ _ c.in_ok-judge.ensures) c.sweep_judged.ensures
