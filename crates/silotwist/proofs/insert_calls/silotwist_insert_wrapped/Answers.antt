-- `silotwist::insert_calls::silotwist_insert_wrapped` meets its contract.
use Rattle.face.proofs.ScheduleCalls.{changes, changes_no_room, changes_short}
use mathlib.Core.Path.{refl}
use Rattle.silotwist.proofs.insert_calls.silotwist_insert_wrapped.Goals as goal

pub returns-then-answer-lt8 : goal.returns-then-answer-lt8
returns-then-answer-lt8 c = changes_no_room _ c.if-answer-lt8.true

pub returns-then-record-lt6 : goal.returns-then-record-lt6
returns-then-record-lt6 c =
    changes_short _ c.if-answer-lt8.false c.setup-su.ensures c.if-record-lt6.true refl
    c.short.ensures.0 c.short.ensures.1

pub returns : goal.returns
returns c =
    changes _ c.if-answer-lt8.false c.setup-su.ensures c.if-record-lt6.false c.record-r.ensures
    c.insert_wrapped_tc-a.ensures
    c.inserted-w.ensures c.with_count.ensures.number
    c.with_count.ensures.words c.with_count.ensures.written
