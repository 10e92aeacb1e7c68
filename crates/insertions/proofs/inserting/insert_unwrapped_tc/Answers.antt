-- `insertions::inserting::insert_unwrapped_tc` meets its contract.
use Rattle.rules.proofs.Passing.{fails, passes}
use Rattle.storing.specs.Answers.{inserted_paper}
use Rattle.insertions.proofs.Activities.{unwrapped_bad, unwrapped_timed}
use Rattle.insertions.proofs.inserting.insert_unwrapped_tc.Goals as goal

pub returns-then-not-in_range : goal.returns-then-not-in_range
unfolding inserted_paper
returns-then-not-in_range c =
    let a = c.args in
    unwrapped_bad a.setup a.rec.now a.store.now a.lens.now a.rows.now a.release a.tc.now (fails c.in_range.ensures c.if-not-in_range.true)

pub returns : goal.returns
returns c =
    let a = c.args in
    unwrapped_timed a.setup a.rec.now a.store.now a.lens.now a.rows.now a.release a.tc.now _ _ _ _ _
    (passes c.in_range.ensures c.if-not-in_range.false) c.insert_tc.ensures
