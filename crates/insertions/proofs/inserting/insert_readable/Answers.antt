-- `insertions::inserting::insert_readable` meets its contract.
use mathlib.Core.Path.{◌∙◌, ap, refl, sym}
use Rattle.packet.specs.Packet.{id_word}
use Rattle.storing.specs.Answers.{inserted_paper}
use Rattle.insertions.proofs.Activities.{does_blocked, does_nested, does_plain}
use Rattle.schedule.proofs.Facts.{facts}
use Rattle.insertions.proofs.inserting.insert_readable.Goals as goal

pub returns-then-nested : goal.returns-then-nested
unfolding inserted_paper
returns-then-nested c =
    let a = c.args in
    does_nested a.setup a.rec.now a.store.now a.lens.now a.rows.now a.release a.tc.now a.h (sym c.nested.ensures ∙ c.if-nested.true)

pub gate-requires-clause-in_range : goal.gate-requires-clause-in_range
gate-requires-clause-in_range c = (facts c.requires.sound).clock

pub gate-requires-clause-margin_in_range : goal.gate-requires-clause-margin_in_range
gate-requires-clause-margin_in_range c = (facts c.requires.sound).margin

pub refuse_unstored-requires : goal.refuse_unstored-requires
refuse_unstored-requires c = (facts c.requires.sound).store

pub returns-in-Err : goal.returns-in-Err
returns-in-Err c =
    let a = c.args in
    let p = c.refuse_unstored.ensures in
    rw (p.1, p.2)
    (does_blocked a.setup a.rec.now a.store.now a.lens.now a.rows.now a.release a.tc.now a.h (sym c.nested.ensures ∙ c.if-nested.false) _
    _ _ c.in-Err.ensures refl p.0)

pub returns : goal.returns
returns c =
    let a = c.args in
    does_plain a.setup a.rec.now a.store.now a.lens.now a.rows.now a.release a.tc.now a.h (sym c.nested.ensures ∙ c.if-nested.false) _ _ _ _ _ _
    (c.as_u64-id.ensures ∙ ap id_word c.request_id.ensures) c.store_and_enter.ensures
