-- `counting::count` meets its contract.
use Rattle.std.proofs.Common.{rules}
use Rattle.counting.specs.Counting.{count_in}
use Rattle.counting.proofs.Counting.{count_refused, counts}
use Rattle.schedule.proofs.Judging.{sound_by}
use Rattle.counting.proofs.count.Goals as goal

pub returns-in_err-judge : goal.returns-in_err-judge
returns-in_err-judge c =
    let a = c.args in
    search (rules, count_refused a.setup a.rec a.store.now a.lens.now a.rows.now _ c.in_err-judge.ensures)

pub returns : goal.returns
returns c =
    let a = c.args in
    counts a.setup a.rec a.store.now a.lens.now a.rows.now
    (sound_by a.setup a.rec a.store.now a.lens.now a.rows.now c.in_ok-judge.ensures)
