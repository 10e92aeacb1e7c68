-- `store_public::judge` meets its contract.
use Rattle.layout.proofs.Bounds.{buffers_fit}
use Rattle.store_public.proofs.Judging.{all_fine, damaged, no_buffers, no_setup}
use Rattle.rules.proofs.Passing.{fails, passes}
use Rattle.store_public.proofs.judge.Goals as goal

pub returns-then-not-setup_ok : goal.returns-then-not-setup_ok
returns-then-not-setup_ok c = no_setup _ _ _ (fails c.setup_ok.ensures c.if-not-setup_ok.true)

pub returns-then-not-buffers_ok : goal.returns-then-not-buffers_ok
returns-then-not-buffers_ok c =
    no_buffers _ _ _ (passes c.setup_ok.ensures c.if-not-setup_ok.false)
    (fails c.buffers_ok.ensures c.if-not-buffers_ok.true)

pub lens_ok-requires : goal.lens_ok-requires
lens_ok-requires c = (
  passes c.setup_ok.ensures c.if-not-setup_ok.false,
  (buffers_fit _ _ _ (passes c.buffers_ok.ensures c.if-not-buffers_ok.false)).1,
)

pub returns-then-not-lens_ok : goal.returns-then-not-lens_ok
returns-then-not-lens_ok c =
    damaged _ _ _
    (passes c.setup_ok.ensures c.if-not-setup_ok.false)
    (passes c.buffers_ok.ensures c.if-not-buffers_ok.false)
    (fails c.lens_ok.ensures c.if-not-lens_ok.true)

pub returns : goal.returns
returns c =
    all_fine _ _ _
    (passes c.setup_ok.ensures c.if-not-setup_ok.false)
    (passes c.buffers_ok.ensures c.if-not-buffers_ok.false)
    (passes c.lens_ok.ensures c.if-not-lens_ok.false)
