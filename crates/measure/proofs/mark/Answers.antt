-- `measure::mark` meets its contract.
use Rattle.measure.proofs.Leaving.{left_deleted, left_kept}
use Rattle.measure.proofs.mark.Goals as goal

pub returns-then-delete : goal.returns-then-delete
returns-then-delete c = left_deleted _ _ _ _ _ c.if-delete.true c.mark.ensures

pub returns-else-delete : goal.returns-else-delete
returns-else-delete c = left_kept _ _ _ _ c.if-delete.false
