-- `starting::fresh_start` meets its contract.
use Rattle.std.proofs.Common.{rules}
use Rattle.schedule.proofs.Facts.{long_enough, store-sized}
use Rattle.starting.proofs.Starting.{start_done, start_refused}
use Rattle.starting.proofs.fresh_start.Goals as goal

pub returns-in_err-judge_start : goal.returns-in_err-judge_start
returns-in_err-judge_start c =
    let a = c.args in
    search (rules, start_refused a.setup a.rec.now a.store.now a.lens.now a.rows.now a.clock a.margin _ c.in_err-judge_start.ensures)

pub fresh-requires : goal.fresh-requires
fresh-requires c =
    let h = c.in_ok-judge_start.ensures.passed in
    store-sized _ _ _ _ h.0 h.1

pub remove-requires-clause-held : goal.remove-requires-clause-held
remove-requires-clause-held c =
    let h = c.in_ok-judge_start.ensures.passed in
    record { room = (long_enough _ _ _ _ h.0 h.1).rows_fit }

pub returns : goal.returns
returns c =
    let a = c.args in
    start_done a.setup a.rec.now a.store.now a.lens.now a.rows.now a.clock a.margin c.in_ok-judge_start.ensures
    _ _ _ _ c.started.ensures c.fresh.ensures c.remove.ensures
