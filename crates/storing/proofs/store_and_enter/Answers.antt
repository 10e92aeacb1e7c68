-- `storing::store_and_enter` meets its contract.
use mathlib.Core.Path.{◌∙◌, ap, refl}
use Rattle.std.proofs.Common.{rules}
use Rattle.store.specs.Refusals.{added_paper}
use Rattle.table_edit.specs.Edits.{after_insert}
use Rattle.rows.specs.Entries.{entry_of}
use Rattle.time.specs.declared.Moment.{Moment}
use Rattle.storing.specs.Answers.{inserted_paper}
use Rattle.storing.proofs.Adding.{enter_done, enter_refused}
use Rattle.gate.proofs.Gates.{spare}
use Rattle.schedule.proofs.Facts.{facts, table_sound}
use Rattle.storing.proofs.store_and_enter.Goals as goal

pub add-requires : goal.add-requires
add-requires c = (facts c.requires.sound).store

pub insert-requires-clause-sound : goal.insert-requires-clause-sound
insert-requires-clause-sound c = table_sound (facts c.requires.sound)

pub insert-requires-clause-spare : goal.insert-requires-clause-spare
insert-requires-clause-spare c = spare (facts c.requires.sound) c.requires.release_value.1

pub returns-in_err-addr : goal.returns-in_err-addr
unfolding inserted_paper added_paper
returns-in_err-addr c =
    let a = c.args in
    let d = c.in_err-addr.ensures in
    search (rules, enter_refused a.setup a.rec.now a.store.now a.lens.now a.rows.now a.release a.tc.now a.id _ _ d.lists _ d.answer)

pub returns : goal.returns
unfolding inserted_paper added_paper
returns c =
    let a = c.args in
    let d = c.in_ok-addr.ensures in
    enter_done a.setup a.rec.now a.store.now a.lens.now a.rows.now a.release a.tc.now a.id _ _ d.lists _ _ _ d.answer
    c.requires.release_value.0 c.requires.release_value.1 refl
    (c.insert.ensures
    ∙ ap (λ (x : Moment). after_insert a.rows.now a.rec.now.count (entry_of x a.id c.in_ok-addr.addr)) c.to_moment.ensures)
