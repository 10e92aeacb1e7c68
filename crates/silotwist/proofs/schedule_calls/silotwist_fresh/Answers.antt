-- `silotwist::schedule_calls::silotwist_fresh` meets its contract.
use Rattle.face.proofs.Resetting.{starts_at}
use Rattle.face.proofs.ScheduleCalls.{faces_no_room, faces_short}
use Rattle.face_reading.proofs.Seconds.{held_time}
use mathlib.Core.Path.{refl}
use Rattle.silotwist.proofs.schedule_calls.silotwist_fresh.Goals as goal

pub returns-then-answer-lt8 : goal.returns-then-answer-lt8
returns-then-answer-lt8 c = faces_no_room _ c.if-answer-lt8.true

pub returns-then-record-lt6 : goal.returns-then-record-lt6
returns-then-record-lt6 c =
    faces_short _ c.if-answer-lt8.false c.setup-su.ensures c.if-record-lt6.true refl
    c.short.ensures.0 c.short.ensures.1

pub returns : goal.returns
returns c =
    starts_at _ (held_time _ _ _ c.ranges.clock_secs c.time-t.ensures) c.if-answer-lt8.false c.setup-su.ensures c.if-record-lt6.false
    c.fresh_start-a.ensures
    c.done-w.ensures c.with_all.ensures.number
    c.with_all.ensures.words c.with_all.ensures.written
