-- `check_code::fold::whole` meets its contract.
use Rattle.std.proofs.Common.{arith}
use Rattle.check_code.proofs.Folding.{fold8_keeps}
use Rattle.check_code.proofs.fold.whole.Goals as goal

pub returns : goal.returns
returns c = fold8_keeps c.args.w (omega arith)
