-- `store_public::read` meets its contract.
use Rattle.std.proofs.Common.{rules}
use Rattle.reading.specs.Reading.{read_in}
use Rattle.lookup.specs.Refusals.{length_paper}
use Rattle.store_public.proofs.Calls.{reads_fine, reads_refused}
use Rattle.store_public.proofs.Judging.{sound_by}
use Rattle.store_public.proofs.read.Goals as goal

pub read-requires : goal.read-requires
read-requires c = sound_by _ _ _ c.in_ok-judge.ensures

pub returns-in_err-judge : goal.returns-in_err-judge
unfolding length_paper
returns-in_err-judge c =
    search (rules, reads_refused _ c.args.store.now _ (λ ps. read_in ps c.args.addr c.args.buf.now) c.args.buf.now _ c.in_err-judge.ensures)

pub returns : goal.returns
returns c = reads_fine _ _ _ (λ ps. read_in ps c.args.addr c.args.buf.now) _ _ _ (sound_by _ _ _ c.in_ok-judge.ensures) c.read.ensures
