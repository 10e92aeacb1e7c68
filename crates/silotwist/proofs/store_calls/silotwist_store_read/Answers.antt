-- `silotwist::store_calls::silotwist_store_read` meets its contract.
use Rattle.face.proofs.StoreCalls.{buffers, buffers_no_room}
use Rattle.silotwist.proofs.store_calls.silotwist_store_read.Goals as goal

pub returns-then-answer-lt8 : goal.returns-then-answer-lt8
returns-then-answer-lt8 c = buffers_no_room _ _ _ _ _ _ c.if-answer-lt8.true

pub returns : goal.returns
returns c =
    buffers _ _ _ _ _ _ c.if-answer-lt8.false
    c.store_setup-su.ensures
    c.read-a.ensures c.length-w.ensures
    c.put.ensures.0 c.put.ensures.1
