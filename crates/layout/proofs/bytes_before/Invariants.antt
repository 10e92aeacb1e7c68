-- `layout::bytes_before` meets its contract.
use Rattle.std.proofs.Common.{◌≡◌, ◌*◌, ◌≤◌}
use Rattle.layout.specs.Layout.{bytes_before}
use Rattle.layout.proofs.bytes_before.Given as goal

abbrev pub invariant-loop-i : goal.invariant-loop-i
invariant-loop-i l = (l.n ≡ bytes_before l.fn.setup l.i) × (l.n ≤ 4294836225 * l.i)
