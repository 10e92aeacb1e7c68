-- `by_id_public::delete_by_request_id_and_from_pool` meets its contract.
use Rattle.std.proofs.lemmas.Result.{err_from_is_err_and}
use Rattle.by_id.specs.Answers.{freed_paper}
use Rattle.schedule.proofs.Judging.{sound_by}
use Rattle.schedule.proofs.Promises.{writes, writes_refused}
use Rattle.by_id_public.proofs.delete_by_request_id_and_from_pool.Goals as goal

pub delete_by_request_id_and_from_pool-requires : goal.delete_by_request_id_and_from_pool-requires
delete_by_request_id_and_from_pool-requires c = sound_by _ _ _ _ _ c.in_ok-judge.ensures

pub returns-in_err-judge : goal.returns-in_err-judge
unfolding freed_paper
returns-in_err-judge c =
    let p = err_from_is_err_and c.from_residual.result c.from_residual.ensures.1 in
    rw (p.1, p.2) (writes_refused _ _ _ _ _ _ _ c.in_err-judge.ensures)

pub returns : goal.returns
returns c = writes _ _ _ _ _ _ _ _ _ _ _ (sound_by _ _ _ _ _ c.in_ok-judge.ensures) c.delete_by_request_id_and_from_pool.ensures
