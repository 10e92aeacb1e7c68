-- `deletions::deleting::delete_by_time_filter` meets its contract.
use mathlib.Core.Path.{refl}
use Rattle.std.proofs.Common.{rules}
use Rattle.deletions.proofs.Clearing.{window_done, window_refused}
use Rattle.schedule.proofs.Facts.{facts, table_sound}
use Rattle.deletions.proofs.deleting.delete_by_time_filter.Goals as goal

pub rows_in-part-requires-clause-sound : goal.rows_in-part-requires-clause-sound
rows_in-part-requires-clause-sound c = table_sound (facts c.requires)

pub returns-in_err-x : goal.returns-in_err-x
returns-in_err-x c =
    let a = c.args in
    search (rules, window_refused a.setup a.rec.now a.store.now a.lens.now a.rows.now a.w _ c.in_err-x.ensures _ refl)

pub returns : goal.returns
returns c =
    let p = c.rows_in-part in
    let a = c.args in
    window_done a.setup a.rec.now a.store.now a.lens.now a.rows.now a.w _ c.in_ok-x.ensures _ _ _ _ _ _ _ refl
    (facts c.requires).kept p.ensures.row p.ensures.many c.clear.ensures
