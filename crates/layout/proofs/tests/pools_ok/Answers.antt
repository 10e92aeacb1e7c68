-- `layout::tests::pools_ok` meets its contract.
use Rattle.std.proofs.Common.{◌∙◌, rules, below_none, below_more}
use Rattle.layout.proofs.Layouts.{last_more, last_none, pool_test}
use Rattle.rules.proofs.All.{all_end, all_stop}
use Rattle.layout.proofs.tests.pools_ok.Goals as goal

pub loop-k-init : goal.loop-k-init
loop-k-init c = (last_none _, below_none _)

pub returns-then-not-pool_ok : goal.returns-then-not-pool_ok
returns-then-not-pool_ok c =
    all_stop _ _ c.loop-k.k (search rules)
    (pool_test _ _ _ _ _ _ _ c.loop-k.invariant.0 c.size_at-size.ensures.0 c.slots_at.ensures.0 c.pool_ok.ensures c.if-not-pool_ok.true)

pub loop-k-preserved : goal.loop-k-preserved
loop-k-preserved c = (
  c.size_at-size.ensures.0 ∙ last_more _ _,
  below_more _ _ c.loop-k.invariant.1
      (pool_test _ _ _ _ _ _ _ c.loop-k.invariant.0 c.size_at-size.ensures.0 c.slots_at.ensures.0 c.pool_ok.ensures c.if-not-pool_ok.false),
)

pub returns : goal.returns
returns c = all_end _ _ _ c.loop-k-test.false c.loop-k.invariant.1
