-- `store_public::fresh` meets its contract.
use Rattle.store.proofs.Start.{fresh_done}
use Rattle.store_public.proofs.Calls.{fresh_buffers, fresh_setup}
use Rattle.rules.proofs.Passing.{fails, passes}
use Rattle.store_public.proofs.fresh.Goals as goal

pub returns-then-not-setup_ok : goal.returns-then-not-setup_ok
returns-then-not-setup_ok c = fresh_setup _ _ _ (fails c.setup_ok.ensures c.if-not-setup_ok.true)

pub returns-then-not-buffers_ok : goal.returns-then-not-buffers_ok
returns-then-not-buffers_ok c =
    fresh_buffers _ _ _ (passes c.setup_ok.ensures c.if-not-setup_ok.false)
    (fails c.buffers_ok.ensures c.if-not-buffers_ok.true)

pub returns : goal.returns
returns c =
    fresh_done _ _ _
    (record {
      setup = passes c.setup_ok.ensures c.if-not-setup_ok.false;
      buffers = passes c.buffers_ok.ensures c.if-not-buffers_ok.false;
    }) _ _
    c.fresh.ensures
