-- `layout::lens_ok` meets its contract.
use Rattle.std.proofs.Common.{sym, arith, rules, below_none, below_more}
use Rattle.layout.proofs.Bounds.{setup_pool}
use Rattle.layout.proofs.Layouts.{rows_more, rows_none, rows_within}
use Rattle.layout.proofs.Lengths.{pool_part}
use Rattle.layout.specs.Judge.{lens_ok}
use Rattle.rules.proofs.All.{all_end, all_stop}
use Rattle.layout.proofs.lens_ok.Goals as goal

pub loop-k-init : goal.loop-k-init
loop-k-init c = (sym (rows_none _), below_none _)

pub pool_lens_ok-requires : goal.pool_lens_ok-requires
pool_lens_ok-requires c = omega (arith, (setup_pool c.args.setup c.requires.0 c.loop-k.k (search rules)).1)

pub returns-then-not-pool_lens_ok : goal.returns-then-not-pool_lens_ok
unfolding lens_ok
returns-then-not-pool_lens_ok c =
    let w = rows_within c.args.setup c.loop-k.k c.args.setup.pools (search rules) in
    all_stop _ _ c.loop-k.k (search rules)
    (pool_part _ _ _ _ _ _ _ c.loop-k.invariant.0 c.slots_at.ensures.0 c.slot_size.ensures (omega arith) c.if-not-pool_lens_ok.ensures)

pub loop-k-preserved : goal.loop-k-preserved
loop-k-preserved c =
    let w = rows_within c.args.setup c.loop-k.k c.args.setup.pools (search rules) in (
      omega (arith, rows_more c.args.setup c.loop-k.k),
      below_more _ _ c.loop-k.invariant.1
          (pool_part _ _ _ _ _ _ _ c.loop-k.invariant.0 c.slots_at.ensures.0 c.slot_size.ensures (omega arith) c.if-not-pool_lens_ok.ensures),
    )

pub returns : goal.returns
unfolding lens_ok
returns c = all_end _ _ _ c.loop-k-test.false c.loop-k.invariant.1
