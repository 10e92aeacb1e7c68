-- `silotwist::schedule_calls::silotwist_count` meets its contract.
use Rattle.face.proofs.ScheduleCalls.{looks, looks_no_room, looks_short}
use mathlib.Core.Path.{refl}
use Rattle.silotwist.proofs.schedule_calls.silotwist_count.Goals as goal

pub returns-then-answer-lt8 : goal.returns-then-answer-lt8
returns-then-answer-lt8 c = looks_no_room _ _ _ _ _ _ _ c.if-answer-lt8.true

pub returns-then-record-lt6 : goal.returns-then-record-lt6
returns-then-record-lt6 c =
    looks_short _ _ _ _ _ _ _ c.if-answer-lt8.false c.setup-su.ensures
    c.if-record-lt6.true refl c.short.ensures.0 c.short.ensures.1

pub returns : goal.returns
returns c =
    looks _ _ _ _ _ _ _ c.if-answer-lt8.false
    c.setup-su.ensures
    c.if-record-lt6.false
    c.record-r.ensures
    c.count-a.ensures
    c.counted-w.ensures c.put.ensures.0 c.put.ensures.1
