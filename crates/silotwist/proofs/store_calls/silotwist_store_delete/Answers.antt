-- `silotwist::store_calls::silotwist_store_delete` meets its contract.
use Rattle.face.proofs.StoreCalls.{stores, stores_no_room}
use Rattle.silotwist.proofs.store_calls.silotwist_store_delete.Goals as goal

pub returns-then-answer-lt8 : goal.returns-then-answer-lt8
returns-then-answer-lt8 c = stores_no_room _ c.if-answer-lt8.true

pub returns : goal.returns
returns c =
    stores _ c.if-answer-lt8.false
    c.store_setup-su.ensures
    c.delete-a.ensures
    c.deleted-w.ensures
    c.put.ensures.0 c.put.ensures.1
