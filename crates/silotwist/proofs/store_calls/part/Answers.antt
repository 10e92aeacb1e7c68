-- `silotwist::store_calls::part` meets its contract.
use Rattle.rules.specs.Papers.{says}
use Rattle.face.proofs.Parting.{part_found, part_refused}
use Rattle.face.specs.StoreFace.{part_in}
use Rattle.store_public.proofs.Judging.{judging_refused, sound_by}
use mathlib.Core.Path.{refl}
use Rattle.silotwist.proofs.store_calls.part.Goals as goal

pub find-requires : goal.find-requires
find-requires c = sound_by _ _ _ c.in_default.ensures

pub returns-in-Err : goal.returns-in-Err
unfolding says
returns-in-Err c =
    let a = c.args in
    rw (judging_refused a.setup a.store.now a.lens.now (part_in a.address a.setup) c.in-Err.e c.in-Err.ensures) c.store_refusal.ensures

pub returns-in-Err-find : goal.returns-in-Err-find
returns-in-Err-find c =
    let a = c.args in
    part_refused a.setup a.store.now a.lens.now a.address (sound_by _ _ _ c.in_default.ensures) _ c.find.ensures _ _
    c.in-Err-find.is c.store_refusal-in-Err-find.ensures

pub returns-in-Ok : goal.returns-in-Ok
returns-in-Ok c =
    let a = c.args in
    part_found a.setup a.store.now a.lens.now a.address (sound_by _ _ _ c.in_default.ensures) _ c.find.ensures _ _ _ _
    c.in-Ok.is c.two.ensures refl refl
