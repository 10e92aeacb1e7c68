-- `slots::search::find_room` meets its contract.
use Rattle.std.proofs.Common.{ap, ◌∙◌, arith}
use Rattle.layout.proofs.Layouts.{rows_within}
use Rattle.rules.proofs.First.{from_more}
use Rattle.slots.proofs.Firsts.{slot_found, slot_none}
use Rattle.slots.proofs.Place.{room_at, room_full}
use Rattle.slots.specs.Inside.{cell_of}
use Rattle.std.specs.Prelude.{Ok}
use Rattle.slots.proofs.search.find_room.Goals as goal

pub returns-in-Some : goal.returns-in-Some
returns-in-Some c =
    let w = rows_within c.args.setup c.loop-k.k c.args.setup.pools (omega arith) in
    let f = slot_found c.args.setup c.args.lens.now c.loop-k.k _ _ c.rows_before-base.ensures.0 c.slots_at.ensures.0 (omega arith) c.in-Some.s
    c.in-Some.ensures in
    ap Ok (c.cell_at.ensures ∙ ap (cell_of c.args.setup c.loop-k.k) f.0)
    ∙ room_at _ _ _ _ _ c.loop-k.auto.k c.loop-k-test.true c.loop-k.invariant f.1

pub loop-k-preserved : goal.loop-k-preserved
loop-k-preserved c =
    let w = rows_within c.args.setup c.loop-k.k c.args.setup.pools (omega arith) in
    from_more _ _ _ c.loop-k.invariant
    (slot_none c.args.setup c.args.lens.now c.loop-k.k _ _ c.rows_before-base.ensures.0 c.slots_at.ensures.0 (omega arith) c.in_default.ensures)

pub returns : goal.returns
returns c = room_full _ _ _ _ _ (omega arith) c.loop-k-test.false c.loop-k.invariant
