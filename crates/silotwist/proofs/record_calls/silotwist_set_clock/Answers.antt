-- `silotwist::record_calls::silotwist_set_clock` meets its contract.
use Rattle.face.proofs.RecordCalls.{clock_face, record_no_room, record_short}
use mathlib.Core.Path.{ap}
use mir.Facts.{to_z-of_z}
use mir.Syntax.{w64}
use mir.Val.{SFits}
use lib.IntN.{ℤ}
use borrow.Author.Rules.{rules}
use Rattle.silotwist.proofs.record_calls.silotwist_set_clock.Goals as goal

pub returns-then-answer-lt8 : goal.returns-then-answer-lt8
returns-then-answer-lt8 c = record_no_room _ c.if-answer-lt8.true

pub returns-then-record-lt6 : goal.returns-then-record-lt6
returns-then-record-lt6 c =
    record_short _ c.if-answer-lt8.false c.if-record-lt6.true c.none.ensures c.put.ensures.0 c.put.ensures.1

pub returns : goal.returns
returns c =
    let f : SFits w64 c.args.secs = search rules in
    clock_face c.if-answer-lt8.false c.if-record-lt6.false c.record-r.ensures c.done-w.ensures c.with_clock.ensures.number
    c.with_clock.ensures.words
    (ap (λ (z : ℤ). record { secs = z; nanos = c.args.nanos }) (to_z-of_z f)) c.set_clock-a.ensures c.with_clock.ensures.written
