-- `silotwist::store_calls::silotwist_store_has` meets its contract.
use Rattle.face.proofs.StoreCalls.{asks, asks_no_room}
use Rattle.silotwist.proofs.store_calls.silotwist_store_has.Goals as goal

pub returns-then-answer-lt8 : goal.returns-then-answer-lt8
returns-then-answer-lt8 c = asks_no_room _ _ _ _ _ c.if-answer-lt8.true

pub returns : goal.returns
returns c =
    asks _ _ _ _ _ c.if-answer-lt8.false
    c.store_setup-su.ensures c.has_element_at-a.ensures
    c.presence-w.ensures
    c.put.ensures.0 c.put.ensures.1
