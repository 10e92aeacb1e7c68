-- `insertions_public::insert_unwrapped_and_stored_tc` meets its contract.
use Rattle.std.proofs.lemmas.Result.{err_from_is_err_and}
use Rattle.record.specs.Refusals.{done_paper}
use Rattle.schedule.proofs.Judging.{sound_by}
use Rattle.schedule.proofs.Promises.{writes, writes_refused}
use Rattle.insertions_public.proofs.insert_unwrapped_and_stored_tc.Goals as goal

pub insert_unwrapped_and_stored_tc-requires : goal.insert_unwrapped_and_stored_tc-requires
insert_unwrapped_and_stored_tc-requires c = sound_by _ _ _ _ _ c.in_ok-judge.ensures

pub returns-in_err-judge : goal.returns-in_err-judge
unfolding done_paper
returns-in_err-judge c =
    let p = err_from_is_err_and c.from_residual.result c.from_residual.ensures.1 in
    rw (p.1, p.2) (writes_refused _ _ _ _ _ _ _ c.in_err-judge.ensures)

pub returns : goal.returns
returns c = writes _ _ _ _ _ _ _ _ _ _ _ (sound_by _ _ _ _ _ c.in_ok-judge.ensures) c.insert_unwrapped_and_stored_tc.ensures
