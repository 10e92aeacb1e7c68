-- `face_tick::tick` meets its contract.
use Rattle.face.proofs.TickCalls.{ticks, ticks_no_room, ticks_short}
use mathlib.Core.Path.{refl}
use Rattle.face_tick.proofs.tick.Goals as goal

pub returns-then-answer-lt8 : goal.returns-then-answer-lt8
returns-then-answer-lt8 c = ticks_no_room _ c.if-answer-lt8.true

pub returns-then-record-lt6 : goal.returns-then-record-lt6
returns-then-record-lt6 c =
    ticks_short _ c.if-answer-lt8.false c.setup-su.ensures c.if-record-lt6.true refl
    c.short.ensures.0 c.short.ensures.1

pub returns : goal.returns
returns c =
    ticks _ c.if-answer-lt8.false c.setup-su.ensures c.if-record-lt6.false c.record-r.ensures
    c.tick-a.ensures
    c.ticked-w.ensures c.with_count.ensures.number
    c.with_count.ensures.words c.with_count.ensures.written
