-- `table_edit::insert` meets its contract: after every entry that is not later is at the index that `up_to` answers.
use Rattle.rows.specs.Entries.{entry_of}
use Rattle.table_edit.proofs.Ordering.{insert_is}
use Rattle.table_edit.proofs.insert.Goals as goal

pub returns : goal.returns
returns c =
    let a = c.args in
    insert_is a.rows.now _ a.count _ (entry_of a.release a.id a.addr) c.up_to-at.ensures.1
    c.insert_at.ensures
