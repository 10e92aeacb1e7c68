-- `gate::judged::insert_unwrapped_and_stored_tc` meets its contract.
use mathlib.Core.Path.{◌∙◌, ap, refl}
use Rattle.std.proofs.Common.{rules}
use Rattle.rules.proofs.Passing.{fails, passes}
use Rattle.table_edit.specs.Edits.{after_insert}
use Rattle.rows.specs.Entries.{entry_of}
use Rattle.time.specs.declared.Moment.{Moment}
use Rattle.gate.proofs.Gates.{gate_fine, spare}
use Rattle.gate.proofs.Storing.{stored_bad, stored_done, stored_refused}
use Rattle.schedule.proofs.Facts.{facts, table_sound}
use Rattle.gate.proofs.judged.insert_unwrapped_and_stored_tc.Goals as goal

pub returns-then-not-in_range : goal.returns-then-not-in_range
returns-then-not-in_range c =
    let a = c.args in
    stored_bad a.setup a.rec.now a.store.now a.lens.now a.rows.now a.release a.request_id a.addr
    (fails c.in_range.ensures c.if-not-in_range.true)

pub gate-requires-clause-in_range : goal.gate-requires-clause-in_range
gate-requires-clause-in_range c = (facts c.requires).clock

pub gate-requires-clause-margin_in_range : goal.gate-requires-clause-margin_in_range
gate-requires-clause-margin_in_range c = (facts c.requires).margin

pub insert-requires-clause-sound : goal.insert-requires-clause-sound
insert-requires-clause-sound c = table_sound (facts c.requires)

pub insert-requires-clause-spare : goal.insert-requires-clause-spare
insert-requires-clause-spare c =
    spare (facts c.requires) (gate_fine c.args.setup c.args.rec.now c.args.release _ c.in_ok-gate.ensures refl).1

pub returns-in_err-gate : goal.returns-in_err-gate
returns-in_err-gate c =
    let a = c.args in
    search (
      rules,
      stored_refused a.setup a.rec.now a.store.now a.lens.now a.rows.now a.release a.request_id a.addr _ _
          (passes c.in_range.ensures c.if-not-in_range.false) c.in_err-gate.ensures refl,
    )

pub returns : goal.returns
returns c =
    let a = c.args in
    let h = gate_fine a.setup a.rec.now a.release _ c.in_ok-gate.ensures refl in
    stored_done a.setup a.rec.now a.store.now a.lens.now a.rows.now a.release a.request_id a.addr _ _
    (passes c.in_range.ensures c.if-not-in_range.false) h.0 h.1 refl
    (c.insert.ensures
    ∙ ap (λ (x : Moment). after_insert a.rows.now a.rec.now.count (entry_of x a.request_id a.addr))
    c.to_moment.ensures)
