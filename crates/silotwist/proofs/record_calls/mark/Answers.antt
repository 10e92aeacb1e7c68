-- `silotwist::record_calls::mark` meets its contract.
use Rattle.face.proofs.RecordCalls.{mark_face, record_no_room, record_short}
use Rattle.silotwist.proofs.record_calls.mark.Goals as goal

pub returns-then-answer-lt8 : goal.returns-then-answer-lt8
returns-then-answer-lt8 c = record_no_room _ c.if-answer-lt8.true

pub returns-then-record-lt6 : goal.returns-then-record-lt6
returns-then-record-lt6 c = record_short _ c.if-answer-lt8.false c.if-record-lt6.true
    c.none.ensures c.put.ensures.0 c.put.ensures.1

pub returns : goal.returns
returns c =
    mark_face c.if-answer-lt8.false c.if-record-lt6.false c.record-r.ensures c.done-w.ensures c.with_mark.ensures.number
    c.with_mark.ensures.words _ c.set_mark-a.ensures c.with_mark.ensures.written
