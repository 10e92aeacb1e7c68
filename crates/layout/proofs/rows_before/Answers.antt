-- `layout::rows_before` meets its contract.
use Rattle.std.proofs.Common.{arith}
use Rattle.layout.proofs.Layouts.{rows_more, rows_none}
use Rattle.layout.proofs.rows_before.Goals as goal

pub loop-i-init : goal.loop-i-init
loop-i-init c = omega (arith, rows_none)

pub loop-i-preserved : goal.loop-i-preserved
loop-i-preserved c = omega (arith, rows_more c.args.setup c.loop-i.i)
