-- `layout::bytes_before` meets its contract.
use Rattle.std.proofs.Common.{arith, rules}
use Rattle.layout.proofs.Layouts.{bytes_more, bytes_none, product}
use Rattle.layout.proofs.bytes_before.Goals as goal

pub loop-i-init : goal.loop-i-init
loop-i-init c = omega (arith, bytes_none)

pub loop-i-preserved : goal.loop-i-preserved
loop-i-preserved c =
    let p = product c.from.result c.from-in-loop-i.result (search rules) (search rules) in
    (rw (bytes_more, c.from.ensures, c.from-in-loop-i.ensures, c.loop-i.invariant.0), omega arith)
