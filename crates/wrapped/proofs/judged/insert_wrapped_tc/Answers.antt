-- `wrapped::judged::insert_wrapped_tc` meets its contract.
use mathlib.Core.Path.{sym}
use Rattle.storing.specs.Answers.{inserted_paper}
use Rattle.wrapped.proofs.Wrapping.{wrapped_opened, wrapped_unreadable}
use Rattle.wrapped.proofs.judged.insert_wrapped_tc.Goals as goal

pub returns-in_default : goal.returns-in_default
unfolding inserted_paper
returns-in_default c =
    let a = c.args in
    wrapped_unreadable a.setup a.rec.now a.store.now a.lens.now a.rows.now a.outer.now _ (sym c.in_default.ensures)

pub returns : goal.returns
returns c =
    let a = c.args in
    wrapped_opened a.setup a.rec.now a.store.now a.lens.now a.rows.now a.outer.now _ _ _ _ _ _
    (sym c.in-Ok.ensures) c.insert_opened.ensures
