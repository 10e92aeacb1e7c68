-- `tick_public::tick` meets its contract.
use Rattle.std.proofs.Common.{rules}
use Rattle.tick.specs.Tick.{tick_in}
use Rattle.tick_public.proofs.Promised.{ticks, ticks_refused}
use Rattle.schedule.proofs.Judging.{sound_by}
use Rattle.tick_public.proofs.tick.Goals as goal

pub returns-in_err-judge : goal.returns-in_err-judge
returns-in_err-judge c =
    let a = c.args in
    search (
      rules,
      ticks_refused a.setup a.rec.now a.store.now a.lens.now a.rows.now a.log.now (tick_in a.limit a.delete a.log.now) _ c.in_err-judge.ensures,
    )

pub tick-requires : goal.tick-requires
tick-requires c =
    let a = c.args in
    sound_by a.setup a.rec.now a.store.now a.lens.now a.rows.now c.in_ok-judge.ensures

pub returns : goal.returns
returns c =
    let a = c.args in
    ticks a.setup a.rec.now a.store.now a.lens.now a.rows.now a.log.now (tick_in a.limit a.delete a.log.now) _ _ _ _ _ _
    (sound_by a.setup a.rec.now a.store.now a.lens.now a.rows.now c.in_ok-judge.ensures) c.tick.ensures
