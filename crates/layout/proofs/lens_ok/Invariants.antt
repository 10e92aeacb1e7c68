-- `layout::lens_ok` meets its contract.
use Rattle.std.proofs.Common.{◌≡◌, ℕ, ◌<◌, true}
use Rattle.layout.specs.Judge.{pool_lens_ok}
use Rattle.layout.specs.Layout.{rows_before}
use Rattle.layout.proofs.lens_ok.Given as goal

abbrev pub invariant-loop-k : goal.invariant-loop-k
invariant-loop-k l = (l.base ≡ rows_before l.setup l.k) × ((j : ℕ) → j < l.k → pool_lens_ok l.setup l.lens j ≡ true)
