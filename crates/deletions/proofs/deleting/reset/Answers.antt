-- `deletions::deleting::reset` meets its contract.
use Rattle.deletions.proofs.Clearing.{reset_done}
use Rattle.deletions.proofs.deleting.reset.Goals as goal

pub returns : goal.returns
returns c =
    let a = c.args in
    reset_done a.setup a.rec.now a.store.now a.lens.now a.rows.now _ _ _ _ _
    c.clear.ensures
