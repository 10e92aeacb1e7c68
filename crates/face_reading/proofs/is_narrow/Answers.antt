-- `face_reading::is_narrow` meets its contract.
use Rattle.face_reading.proofs.Narrow.{narrow_end, narrow_stop}
use Rattle.face_reading.proofs.is_narrow.Goals as goal

pub returns-then-word-ge-TOO_WIDE : goal.returns-then-word-ge-TOO_WIDE
returns-then-word-ge-TOO_WIDE c = narrow_stop _ c.loop-i.i _ c.loop-i-test.true c.word.ensures c.if-word-ge-TOO_WIDE.true

pub returns : goal.returns
returns c = narrow_end _ c.loop-i.i c.loop-i-test.false c.loop-i.invariant
