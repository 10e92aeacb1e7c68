-- `measure::measure` meets its contract.
use Rattle.measure.proofs.measure.Goals as goal

pub returns-then-delete : goal.returns-then-delete
returns-then-delete c =
    let e = c.mark_fitting-m.ensures in
    (e.0, c.unmark.ensures.back _ _ _ e.1.marks)
