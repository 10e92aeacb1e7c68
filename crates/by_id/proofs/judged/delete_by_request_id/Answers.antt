-- `by_id::judged::delete_by_request_id` meets its contract.
use mathlib.Core.Path.{refl}
use Rattle.by_id.specs.Answers.{taken_paper}
use Rattle.schedule.proofs.Facts.{facts, table_held, table_sound}
use Rattle.by_id.proofs.Taking.{keep_done, keep_none}
use Rattle.by_id.proofs.judged.delete_by_request_id.Goals as goal

pub victim-requires : goal.victim-requires
victim-requires c = table_sound (facts c.requires)

pub returns-in_err-k : goal.returns-in_err-k
unfolding taken_paper
returns-in_err-k c =
    let a = c.args in
    rw c.from_residual.ensures
    (keep_none a.setup a.rec.now a.store.now a.lens.now a.rows.now (facts c.requires) a.request_id c.in_err-k.ensures)

pub tc_info-info-requires-clause-held : goal.tc_info-info-requires-clause-held
tc_info-info-requires-clause-held c = table_held (facts c.requires)

pub remove-requires-clause-held : goal.remove-requires-clause-held
remove-requires-clause-held c = table_held (facts c.requires)

pub returns : goal.returns
unfolding taken_paper
returns c =
    let a = c.args in
    keep_done a.setup a.rec.now a.store.now a.lens.now a.rows.now (facts c.requires) a.request_id _
    c.in_ok-k.ensures.0 c.in_ok-k.ensures.1 _ _ _
    c.tc_info-info.ensures.1 refl c.remove.ensures
