-- `deletions::deleting::clear` meets its contract.
use mathlib.Core.Path.{refl}
use Rattle.deletions.proofs.Clearing.{clear_done}
use Rattle.schedule.proofs.Facts.{facts, table_sound, table_held}
use Rattle.deletions.proofs.deleting.clear.Goals as goal

pub sweep-tally-requires-clause-store_sound : goal.sweep-tally-requires-clause-store_sound
sweep-tally-requires-clause-store_sound c = (facts c.requires.sound).store

pub sweep-tally-requires-clause-table_sound : goal.sweep-tally-requires-clause-table_sound
sweep-tally-requires-clause-table_sound c = table_sound (facts c.requires.sound)

pub remove-requires-clause-held : goal.remove-requires-clause-held
remove-requires-clause-held c = table_held (facts c.requires.sound)

pub returns : goal.returns
returns c =
    let a = c.args in
    clear_done a.setup a.rec.now a.store.now a.lens.now a.rows.now a.part a.enabled _ _ _ _ _ c.requires.number_bound
    c.sweep-tally.ensures c.remove.ensures refl
