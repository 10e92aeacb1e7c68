-- `layout::tests::pools_ok` meets its contract.
use Rattle.std.proofs.Common.{◌≡◌, ℕ, ◌<◌, true}
use Rattle.layout.specs.Judge.{last_size, pool_ok_at}
use Rattle.layout.proofs.tests.pools_ok.Given as goal

abbrev pub invariant-loop-k : goal.invariant-loop-k
invariant-loop-k l = (l.last ≡ last_size l.setup l.k) × ((j : ℕ) → j < l.k → pool_ok_at l.setup j ≡ true)
