-- `table_edit::insert_at` meets its contract.
use Rattle.rows.specs.Entries.{entry_of}
use Rattle.table_edit.proofs.Written.{inserted}
use native.Mathlib.Omega.{arith}
use Rattle.table_edit.proofs.insert_at.Goals as goal

pub returns : goal.returns
returns c =
    let a = c.args in
    rw (c.from.ensures, c.copy_within.ensures.after)
    (inserted a.rows.now a.count a.at (entry_of a.release a.id a.addr) (omega arith) (omega arith))
