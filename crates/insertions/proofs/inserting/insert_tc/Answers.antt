-- `insertions::inserting::insert_tc` meets its contract.
use mathlib.Core.Path.{sym}
use Rattle.storing.specs.Answers.{inserted_paper}
use Rattle.insertions.proofs.Activities.{does_readable, does_unreadable}
use Rattle.insertions.proofs.inserting.insert_tc.Goals as goal

pub returns-in_default : goal.returns-in_default
unfolding inserted_paper
returns-in_default c =
    let a = c.args in
    does_unreadable a.setup a.rec.now a.store.now a.lens.now a.rows.now a.release a.tc.now _ (sym c.in_default.ensures)

pub returns : goal.returns
returns c =
    let a = c.args in
    does_readable a.setup a.rec.now a.store.now a.lens.now a.rows.now a.release a.tc.now _ _ _ _ _ _ (sym c.in-Ok.ensures) c.insert_readable.ensures
