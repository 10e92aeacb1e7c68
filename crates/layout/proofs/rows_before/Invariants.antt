-- `layout::rows_before` meets its contract.
use Rattle.std.proofs.Common.{◌≡◌, ◌*◌, ◌≤◌}
use Rattle.layout.specs.Layout.{rows_before}
use Rattle.layout.proofs.rows_before.Given as goal

abbrev pub invariant-loop-i : goal.invariant-loop-i
invariant-loop-i l = (l.n ≡ rows_before l.fn.setup l.i) × (l.n ≤ 65535 * l.i)
