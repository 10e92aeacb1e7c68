-- `tick::judged::tick` meets its contract.
use Rattle.tick.proofs.Lacking.{lack_else}
use Rattle.tick.proofs.Ticking.{clock_ok, due_by, moment_ok, rows_held, rows_ok, store_ok, tick_hands, tick_lacks, tick_short}
use Rattle.tick.proofs.judged.tick.Goals as goal

pub returns-then-log-lt8 : goal.returns-then-log-lt8
returns-then-log-lt8 c = tick_short _ _ _ _ _ _ _ _ c.if-log-lt8.true

pub to_moment-requires : goal.to_moment-requires
to_moment-requires c = clock_ok c.requires

pub up_to-due-requires-clause-sound : goal.up_to-due-requires-clause-sound
up_to-due-requires-clause-sound c = rows_ok c.requires

pub up_to-due-requires-clause-moment_in_range : goal.up_to-due-requires-clause-moment_in_range
up_to-due-requires-clause-moment_in_range c = moment_ok c.requires _ c.to_moment.ensures

pub lacking-requires-clause-store_sound : goal.lacking-requires-clause-store_sound
lacking-requires-clause-store_sound c = store_ok c.requires

pub lacking-requires-clause-held : goal.lacking-requires-clause-held
lacking-requires-clause-held c = rows_held c.requires

pub returns-in-Some : goal.returns-in-Some
returns-in-Some c =
    let a = c.args in
    tick_lacks a.setup a.rec.now a.store.now a.lens.now a.rows.now a.log.now a.limit a.delete _ _ _ c.if-log-lt8.false c.min-cap.ensures
    (due_by a.rec.now.clock _ _ _ c.to_moment.ensures c.up_to-due.ensures.1) c.min-n.ensures _ c.in-Some.ensures

pub release-m-requires-clause-store_sound : goal.release-m-requires-clause-store_sound
release-m-requires-clause-store_sound c = store_ok c.requires

pub release-m-requires-clause-held : goal.release-m-requires-clause-held
release-m-requires-clause-held c = rows_held c.requires

pub returns : goal.returns
returns c =
    let a = c.args in
    tick_hands a.setup a.rec.now a.store.now a.lens.now a.rows.now a.log.now a.limit a.delete _ _ _ c.if-log-lt8.false c.min-cap.ensures
    (due_by a.rec.now.clock _ _ _ c.to_moment.ensures c.up_to-due.ensures.1) c.min-n.ensures _ _ _ _ _
    (lack_else _ _ c.lacking.ensures c.in_default.not-Some) c.up_to-due.ensures.0 c.release-m.ensures
